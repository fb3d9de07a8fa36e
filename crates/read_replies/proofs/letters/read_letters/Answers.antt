use Rattle.std.proofs.Common.{◌≡◌, ◌+◌, ◌<◌, ap, subst, sym, length, List, Ok}
use Rattle.std.specs.Prelude.{Result}
use Rattle.sched_plain.specs.declared.letter.Letter.{Letter}
use Rattle.sched_calls.specs.declared.letter_row.LetterRow.{LetterRow}
use Rattle.sched_calls.specs.declared.reply.ReadReply.TheVariants as shown
use Rattle.sched_calls.specs.declared.reply.Refusal.{Refusal}
use Rattle.sched_calls.specs.declared.reply.Reply.{Reply}
use Rattle.sched_calls.specs.declared.reply.Reply.TheVariants as replies
use Rattle.sched_calls.specs.Replies.{letters_shown}
use Rattle.book_parts.specs.Told.{Told}
use Rattle.book_parts.specs.Stands.{Stands}
use Rattle.read_replies.proofs.LetterLemmas.{letters_are}
use Rattle.read_replies.proofs.letters.read_letters.Goals as goal

pub letter_rows-requires : goal.letter_rows-requires
letter_rows-requires c = subst (λ (page : List Letter). c.args.after + length page < 18446744073709551616) (sym c.as_slice.ensures) c.in_ok-letters.ensures.numbers

pub returns : goal.returns
returns c = λ h st.
    ap (λ (page : List LetterRow). let answer : Result Reply Refusal = Ok (replies.Read (shown.Letters page)) in answer)
    (subst (λ (b : Told). Stands b h → c.in_ok-page.page ≡ letters_shown h c.args.queue.now c.args.after c.args.max) c.parts.view_is
    (λ stands. letters_are _ h c.args.queue.now c.args.after c.args.max c.in_ok-letters.letters c.as_slice.result.now c.in_ok-page.page stands
    c.in_ok-letters.ensures.page c.as_slice.ensures c.in_ok-page.ensures) st)
