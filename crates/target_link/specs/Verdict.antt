-- What the reply of a target says of the attempt. The grammar of a response's head is `httparse`'s
-- (RFC 9112, HTTP/1.0 and HTTP/1.1).
use Rattle.std.specs.Prelude.{◌≡◌, ℕ, ◌≤◌, ◌==◌, nat_lt, nat_le, ◌&&◌, ◌||◌, if◌then◌else◌, ◌⊎◌, List, length}
use Rattle.httparse.specs.Grammar.{ResponseHead, ReadsResponse, status_code}
use Rattle.plain_words.specs.declared.verdict.Verdict.{Verdict}
use Rattle.plain_words.specs.declared.verdict.Verdict.TheVariants.{Done, Retry, Final}
use Rattle.target_link.specs.declared.verdict.TheConstants.{MOST_HEADERS, LEAST_STATUS}

-- 200 to 299 is done; 408, 429, 500 to 599 and what is below 200 is tried again; all else is final
abbrev pub verdict_of_status : ℕ → Verdict
verdict_of_status status =
    if nat_lt status 200 then Retry
    else (if nat_lt status 300 then Done
    else (if (status == 408) || (status == 429) || (nat_le 500 status && nat_lt status 600) then Retry
    else Final))

-- the reply begins with this whole head, of at most 64 headers and a status of 100 or more
abbrev pub IsReadable : List ℕ → ResponseHead → Type 0
IsReadable reply head =
    ((rest : List ℕ) × ReadsResponse reply head rest) × (length head.fields ≤ MOST_HEADERS) × (LEAST_STATUS ≤ status_code head)

-- what a reply says: the verdict of its head's status and that status, or Retry and 0 where it has no readable head
abbrev pub SaysVerdict : List ℕ → Verdict → ℕ → Type 0
SaysVerdict reply verdict status =
    ((head : ResponseHead) × IsReadable reply head × (status ≡ status_code head) × (verdict ≡ verdict_of_status status))
    ⊎ (((head : ResponseHead) → IsReadable reply head → ⊥) × (verdict ≡ Retry) × (status ≡ 0))
