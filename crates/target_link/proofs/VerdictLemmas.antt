-- A reply says one verdict and one status.
use Rattle.std.proofs.Common.{◌≡◌, ℕ, List, inl, inr, sym, ap, ◌∙◌}
use Rattle.httparse.specs.Grammar.{status_code}
use Rattle.httparse.proofs.GrammarLemmas.{response_unique}
use Rattle.plain_words.specs.declared.verdict.Verdict.{Verdict}
use Rattle.target_link.specs.Verdict.{SaysVerdict, verdict_of_status}

pub SaysVerdict-unique : (reply : List ℕ) (v w : Verdict) (s t : ℕ) → SaysVerdict reply v s → SaysVerdict reply w t → (v ≡ w) × (s ≡ t)
SaysVerdict-unique reply v w s t (inl (head, readable, status, verdict)) (inl (other, readable', status', verdict')) =
    let same = (response_unique reply head other readable.0.0 readable'.0.0 readable.0.1 readable'.0.1).0 in
    let number : s ≡ t = status ∙ ap status_code same ∙ sym status' in
    (verdict ∙ ap verdict_of_status number ∙ sym verdict', number)
SaysVerdict-unique reply v w s t (inl (head, readable, _, _)) (inr (none, _, _)) = absurd (none head readable)
SaysVerdict-unique reply v w s t (inr (none, _, _)) (inl (head, readable, _, _)) = absurd (none head readable)
SaysVerdict-unique reply v w s t (inr (_, verdict, status)) (inr (_, verdict', status')) = (verdict ∙ sym verdict', status ∙ sym status')
