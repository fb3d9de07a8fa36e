-- A number that is no status has no phrase.
use Rattle.std.proofs.Common.{◌≡◌, ℕ, Bool, true, false, None, refl, sym, subst, arith}
use Rattle.std.specs.Prelude.{◌==◌}
use Rattle.std.proofs.lemmas.Bool.{eqb-true}
use Rattle.http.specs.StatusCode.{IsStatusCode, reason_phrase}

other : (b : Bool) → (b ≡ true → ⊥) → b ≡ false
other true never = absurd (never refl)
other false never = refl

-- a number that is no status is not this one
differs : (n k : ℕ) → (IsStatusCode n → ⊥) → IsStatusCode k → (n == k) ≡ false
differs n k none code = other (n == k) (λ same. none (subst IsStatusCode (sym (eqb-true n k same)) code))

pub no_phrase : (n : ℕ) → (IsStatusCode n → ⊥) → reason_phrase n ≡ None
no_phrase n none =
    let d100 : (n == 100) ≡ false = differs n 100 none (omega arith, omega arith) in
    let d101 : (n == 101) ≡ false = differs n 101 none (omega arith, omega arith) in
    let d102 : (n == 102) ≡ false = differs n 102 none (omega arith, omega arith) in
    let d103 : (n == 103) ≡ false = differs n 103 none (omega arith, omega arith) in
    let d200 : (n == 200) ≡ false = differs n 200 none (omega arith, omega arith) in
    let d201 : (n == 201) ≡ false = differs n 201 none (omega arith, omega arith) in
    let d202 : (n == 202) ≡ false = differs n 202 none (omega arith, omega arith) in
    let d203 : (n == 203) ≡ false = differs n 203 none (omega arith, omega arith) in
    let d204 : (n == 204) ≡ false = differs n 204 none (omega arith, omega arith) in
    let d205 : (n == 205) ≡ false = differs n 205 none (omega arith, omega arith) in
    let d206 : (n == 206) ≡ false = differs n 206 none (omega arith, omega arith) in
    let d207 : (n == 207) ≡ false = differs n 207 none (omega arith, omega arith) in
    let d208 : (n == 208) ≡ false = differs n 208 none (omega arith, omega arith) in
    let d226 : (n == 226) ≡ false = differs n 226 none (omega arith, omega arith) in
    let d300 : (n == 300) ≡ false = differs n 300 none (omega arith, omega arith) in
    let d301 : (n == 301) ≡ false = differs n 301 none (omega arith, omega arith) in
    let d302 : (n == 302) ≡ false = differs n 302 none (omega arith, omega arith) in
    let d303 : (n == 303) ≡ false = differs n 303 none (omega arith, omega arith) in
    let d304 : (n == 304) ≡ false = differs n 304 none (omega arith, omega arith) in
    let d305 : (n == 305) ≡ false = differs n 305 none (omega arith, omega arith) in
    let d307 : (n == 307) ≡ false = differs n 307 none (omega arith, omega arith) in
    let d308 : (n == 308) ≡ false = differs n 308 none (omega arith, omega arith) in
    let d400 : (n == 400) ≡ false = differs n 400 none (omega arith, omega arith) in
    let d401 : (n == 401) ≡ false = differs n 401 none (omega arith, omega arith) in
    let d402 : (n == 402) ≡ false = differs n 402 none (omega arith, omega arith) in
    let d403 : (n == 403) ≡ false = differs n 403 none (omega arith, omega arith) in
    let d404 : (n == 404) ≡ false = differs n 404 none (omega arith, omega arith) in
    let d405 : (n == 405) ≡ false = differs n 405 none (omega arith, omega arith) in
    let d406 : (n == 406) ≡ false = differs n 406 none (omega arith, omega arith) in
    let d407 : (n == 407) ≡ false = differs n 407 none (omega arith, omega arith) in
    let d408 : (n == 408) ≡ false = differs n 408 none (omega arith, omega arith) in
    let d409 : (n == 409) ≡ false = differs n 409 none (omega arith, omega arith) in
    let d410 : (n == 410) ≡ false = differs n 410 none (omega arith, omega arith) in
    let d411 : (n == 411) ≡ false = differs n 411 none (omega arith, omega arith) in
    let d412 : (n == 412) ≡ false = differs n 412 none (omega arith, omega arith) in
    let d413 : (n == 413) ≡ false = differs n 413 none (omega arith, omega arith) in
    let d414 : (n == 414) ≡ false = differs n 414 none (omega arith, omega arith) in
    let d415 : (n == 415) ≡ false = differs n 415 none (omega arith, omega arith) in
    let d416 : (n == 416) ≡ false = differs n 416 none (omega arith, omega arith) in
    let d417 : (n == 417) ≡ false = differs n 417 none (omega arith, omega arith) in
    let d418 : (n == 418) ≡ false = differs n 418 none (omega arith, omega arith) in
    let d421 : (n == 421) ≡ false = differs n 421 none (omega arith, omega arith) in
    let d422 : (n == 422) ≡ false = differs n 422 none (omega arith, omega arith) in
    let d423 : (n == 423) ≡ false = differs n 423 none (omega arith, omega arith) in
    let d424 : (n == 424) ≡ false = differs n 424 none (omega arith, omega arith) in
    let d425 : (n == 425) ≡ false = differs n 425 none (omega arith, omega arith) in
    let d426 : (n == 426) ≡ false = differs n 426 none (omega arith, omega arith) in
    let d428 : (n == 428) ≡ false = differs n 428 none (omega arith, omega arith) in
    let d429 : (n == 429) ≡ false = differs n 429 none (omega arith, omega arith) in
    let d431 : (n == 431) ≡ false = differs n 431 none (omega arith, omega arith) in
    let d451 : (n == 451) ≡ false = differs n 451 none (omega arith, omega arith) in
    let d500 : (n == 500) ≡ false = differs n 500 none (omega arith, omega arith) in
    let d501 : (n == 501) ≡ false = differs n 501 none (omega arith, omega arith) in
    let d502 : (n == 502) ≡ false = differs n 502 none (omega arith, omega arith) in
    let d503 : (n == 503) ≡ false = differs n 503 none (omega arith, omega arith) in
    let d504 : (n == 504) ≡ false = differs n 504 none (omega arith, omega arith) in
    let d505 : (n == 505) ≡ false = differs n 505 none (omega arith, omega arith) in
    let d506 : (n == 506) ≡ false = differs n 506 none (omega arith, omega arith) in
    let d507 : (n == 507) ≡ false = differs n 507 none (omega arith, omega arith) in
    let d508 : (n == 508) ≡ false = differs n 508 none (omega arith, omega arith) in
    let d510 : (n == 510) ≡ false = differs n 510 none (omega arith, omega arith) in
    let d511 : (n == 511) ≡ false = differs n 511 none (omega arith, omega arith) in
    rw (d100, d101, d102, d103, d200, d201, d202, d203, d204, d205, d206, d207, d208, d226, d300, d301, d302, d303, d304, d305, d307, d308, d400, d401, d402, d403, d404, d405, d406, d407, d408, d409, d410, d411, d412, d413, d414, d415, d416, d417, d418, d421, d422, d423, d424, d425, d426, d428, d429, d431, d451, d500, d501, d502, d503, d504, d505, d506, d507, d508, d510, d511) refl
