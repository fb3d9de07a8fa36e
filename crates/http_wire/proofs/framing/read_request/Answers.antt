use Rattle.http_wire.proofs.FrameLemmas.{unsized, cut_body, takes_request, part_cut, most_cut, whole_up_to}
use Rattle.http_wire.proofs.framing.read_request.Goals as goal

pub returns-in_default-clause-unframed : goal.returns-in_default-clause-unframed
returns-in_default-clause-unframed g c = λ _.
    let found = rw c.in-Ok-Some.field-0-is at c.in-Ok-Some.ensures.found in
    let says = rw c.deref.ensures.value at c.length_of.ensures in
    unsized _ _ _ c.length_of.result found.0 found.1 says c.in_default.is

pub returns-in-Err-read_body-clause-unframed : goal.returns-in-Err-read_body-clause-unframed
returns-in-Err-read_body-clause-unframed g c = λ is.
    let found = rw c.in-Ok-Some.field-0-is at c.in-Ok-Some.ensures.found in
    let says = rw c.deref.ensures.value at c.length_of.ensures in
    cut_body _ _ _ c.length_of.result c.in-Some.length found.0 found.1 says c.in-Some.is (c.in-Err-read_body.ensures.cut is)

pub returns-in-Err-read_body-clause-part : goal.returns-in-Err-read_body-clause-part
returns-in-Err-read_body-clause-part g c = λ is.
    let found = rw c.in-Ok-Some.field-0-is at c.in-Ok-Some.ensures.found in
    let says = rw c.deref.ensures.value at c.length_of.ensures in
    part_cut _ _ _ _ c.length_of.result c.in-Some.length found.0 found.1 says c.in-Some.is (c.in-Err-read_body.ensures.part is)

pub returns-in-Err-read_body-clause-wanting : goal.returns-in-Err-read_body-clause-wanting
returns-in-Err-read_body-clause-wanting g c = λ is.
    let found = rw c.in-Ok-Some.field-0-is at c.in-Ok-Some.ensures.found in
    let says = rw c.deref.ensures.value at c.length_of.ensures in
    most_cut _ _ _ _ c.length_of.result c.in-Some.length found.0 found.1 says c.in-Some.is (c.in-Err-read_body.ensures.wanting is)

pub returns-clause-wanting : goal.returns-clause-wanting
returns-clause-wanting g c = λ _.
    let found = rw c.in-Ok-Some.field-0-is at c.in-Ok-Some.ensures.found in
    let says = rw c.deref.ensures.value at c.length_of.ensures in
    most_cut _ _ _ _ c.length_of.result c.in-Some.length found.0 found.1 says c.in-Some.is
    (whole_up_to _ _ _ _ c.in-Ok.ensures.long c.in-Ok.ensures.found)

pub returns-in-Ok-request_from-clause-found : goal.returns-in-Ok-request_from-clause-found
returns-in-Ok-request_from-clause-found g c =
    let found = rw c.in-Ok-Some.field-0-is at c.in-Ok-Some.ensures.found in
    let says = rw c.deref.ensures.value at c.length_of.ensures in
    let makes = rw c.deref-2.ensures.value at c.in-Ok-request_from.ensures in
    takes_request _ _ _ _ c.in-Ok.body.items c.length_of.result c.in-Some.length _ found.0 found.1 says c.in-Some.is
    c.in-Ok.ensures.long c.in-Ok.ensures.found makes
