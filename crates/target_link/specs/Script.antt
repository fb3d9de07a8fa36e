-- A link that follows a script.
use Rattle.std.specs.Prelude.{ℕ, List, [], ◌∷◌, take}
use Rattle.target_link.specs.declared.link.Sent.{Sent}
use Rattle.target_link.specs.declared.link.Heard.{Heard}
use Rattle.target_link.specs.declared.link.Heard.TheVariants.{Reply, Loss}

-- what contracts see of such a link: what is still to be heard, what was sent, and the counts
pub record Script : Type 0 where
  pub to_come : List Heard
  pub sent : List Sent
  pub sends_left : ℕ
  pub most_bytes : ℕ
  pub losses : ℕ

-- a reply cut to its first bytes
abbrev pub cut : ℕ → Heard → Heard
cut most (Reply bytes) = Reply (take most bytes)
cut most Loss = Loss

-- what is heard next by a script, which is a loss after its end
abbrev pub next_heard : List Heard → Heard
next_heard [] = Loss
next_heard (answer ∷ rest) = answer

-- what a script has left then
abbrev pub later_heard : List Heard → List Heard
later_heard [] = []
later_heard (answer ∷ rest) = rest
