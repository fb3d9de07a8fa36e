use Rattle.std.proofs.Common.{◌≡◌, ℕ, List, sym, ◌∙◌, append_assoc, take, drop, length, ◌-◌}
use Rattle.std.proofs.lemmas.List.{length-drop}
use Rattle.std.proofs.Math.Seq.{take-length}
use Rattle.target_link.specs.Keywords.{keyword_text}
use Rattle.target_link.specs.Known.{known}
use Rattle.target_link.proofs.KeywordLemmas.{replaced-keyword}
use Rattle.target_link.proofs.keyword.Values.put_one.Goals as goal

-- what stands behind the first n places, as a range up to the end
all_behind : (n : ℕ) (text : List ℕ) → take (length text - n) (drop n text) ≡ drop n text
all_behind n text = rw (← length-drop n text) (take-length (drop n text))

pub returns-in_ok-extend_from_slice-in-Some-clause-written : goal.returns-in_ok-extend_from_slice-in-Some-clause-written
returns-in_ok-extend_from_slice-in-Some-clause-written c =
    let found = sym c.at.ensures.value ∙ c.in-Some.is in
    let read = replaced-keyword (known c.args.self.now) c.args.text.now c.in-Some.keyword c.requires found in
    rw (c.in_ok-extend_from_slice-in-Some.ensures.items, c.value.ensures, c.text.ensures.text, all_behind (length (keyword_text c.in-Some.keyword)) c.args.text.now, read)
    (simp append_assoc)
