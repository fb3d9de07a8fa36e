use Rattle.std.proofs.Common.{◌≡◌, inl, inr, ◌+◌, length, Some, refl, ◌∙◌, ap, arith}
use Rattle.journal_file.specs.Format.{payload_of, front, HoldsEither}
use Rattle.journal_file.specs.Journals.{JournalText}
use Rattle.journal_file.proofs.FormatLemmas.{length-front_more}
use Rattle.journal_file.proofs.Moments.{weaker, and_then}
use Rattle.journal_file.proofs.AppendLemmas.{frame_long, shows_then, frame_torn, frame_written, gate_torn_either, gate_opened}
use Rattle.journal_file.proofs.journal.Journal.append.Goals as goal

pub returns-in_err-put-clause-doubted : goal.returns-in_err-put-clause-doubted
returns-in_err-put-clause-doubted g c failed payloads keeps =
    let D = g.D.Disk in
    let payload = payload_of c.args.frame.now in
    let ends : c.self.inside.end ≡ length (front payloads) = ap (λ (j : JournalText). j.end) c.self.view_is ∙ keeps.end in
    let long : c.self.inside.end + length c.args.frame.now ≡ c.self.inside.end + 5 + length payload = omega (arith, frame_long c.args.frame.now c.requires.framed) in
    let torn = frame_torn D.seen D.image payloads payload (c.self.inside.end + 1) c.args.disk.now (length c.args.frame.now) (ap (λ n. n + 1) ends) keeps.shows in
    record {
      torn = ap Some long;
      end = ends;
      shows = shows_then D.seen D.image c.put.new.disk _ (HoldsEither payloads payload) c.in_err-put.ensures.err (λ file left. inl (torn file (inr left)));
    }

pub returns-in_err-put-clause-during : goal.returns-in_err-put-clause-during
returns-in_err-put-clause-during g c payloads keeps =
    let D = g.D.Disk in
    let payload = payload_of c.args.frame.now in
    let ends : c.self.inside.end ≡ length (front payloads) = ap (λ (j : JournalText). j.end) c.self.view_is ∙ keeps.end in
    let torn = frame_torn D.seen D.image payloads payload (c.self.inside.end + 1) c.args.disk.now (length c.args.frame.now) (ap (λ n. n + 1) ends) keeps.shows in
    weaker D.moment D.image_since c.args.disk.now c.put.new.disk _ (HoldsEither payloads payload) c.put.ensures.during (λ file left. inl (torn file left))

pub returns-in_err-put-2-clause-doubted : goal.returns-in_err-put-2-clause-doubted
returns-in_err-put-2-clause-doubted g c failed payloads keeps =
    let D = g.D.Disk in
    let payload = payload_of c.args.frame.now in
    let ends : c.self.inside.end ≡ length (front payloads) = ap (λ (j : JournalText). j.end) c.self.view_is ∙ keeps.end in
    let long : c.self.inside.end + length c.args.frame.now ≡ c.self.inside.end + 5 + length payload = omega (arith, frame_long c.args.frame.now c.requires.framed) in
    let staged = frame_written D.seen D.image payloads payload (c.self.inside.end + 1) c.args.disk.now c.put.new.disk c.args.frame.now (ap (λ n. n + 1) ends) c.requires.framed.is keeps.shows c.in_ok-put.ensures.ok in
    let torn = gate_torn_either D.seen D.image payloads payload c.self.inside.end c.put.new.disk ends c.requires.framed.sized staged in
    record {
      torn = ap Some long;
      end = ends;
      shows = shows_then D.seen D.image c.put-2.new.disk _ (HoldsEither payloads payload) c.in_err-put-2.ensures.err (λ file left. torn file (inr left));
    }

pub returns-in_err-put-2-clause-during : goal.returns-in_err-put-2-clause-during
returns-in_err-put-2-clause-during g c payloads keeps =
    let D = g.D.Disk in
    let payload = payload_of c.args.frame.now in
    let ends : c.self.inside.end ≡ length (front payloads) = ap (λ (j : JournalText). j.end) c.self.view_is ∙ keeps.end in
    let first = frame_torn D.seen D.image payloads payload (c.self.inside.end + 1) c.args.disk.now (length c.args.frame.now) (ap (λ n. n + 1) ends) keeps.shows in
    let staged = frame_written D.seen D.image payloads payload (c.self.inside.end + 1) c.args.disk.now c.put.new.disk c.args.frame.now (ap (λ n. n + 1) ends) c.requires.framed.is keeps.shows c.in_ok-put.ensures.ok in
    let second = gate_torn_either D.seen D.image payloads payload c.self.inside.end c.put.new.disk ends c.requires.framed.sized staged in
    and_then D.moment D.image_since c.args.disk.now c.put.new.disk c.put-2.new.disk (HoldsEither payloads payload)
    (weaker D.moment D.image_since c.args.disk.now c.put.new.disk _ (HoldsEither payloads payload) c.put.ensures.during (λ file left. inl (first file left)))
    (weaker D.moment D.image_since c.put.new.disk c.put-2.new.disk _ (HoldsEither payloads payload) c.put-2.ensures.during second)

pub returns-clause-kept : goal.returns-clause-kept
returns-clause-kept g c payloads keeps =
    let D = g.D.Disk in
    let payload = payload_of c.args.frame.now in
    let ends : c.self.inside.end ≡ length (front payloads) = ap (λ (j : JournalText). j.end) c.self.view_is ∙ keeps.end in
    let staged = frame_written D.seen D.image payloads payload (c.self.inside.end + 1) c.args.disk.now c.put.new.disk c.args.frame.now (ap (λ n. n + 1) ends) c.requires.framed.is keeps.shows c.in_ok-put.ensures.ok in
    record {
      sound = refl;
      end = omega (arith, ends, frame_long c.args.frame.now c.requires.framed, length-front_more payloads payload);
      shows = gate_opened D.seen D.image payloads payload c.self.inside.end c.put.new.disk c.put-2.new.disk ends c.requires.framed.sized staged c.in_ok-put-2.ensures.ok;
    }

pub returns-clause-during : goal.returns-clause-during
returns-clause-during g c payloads keeps =
    let D = g.D.Disk in
    let payload = payload_of c.args.frame.now in
    let ends : c.self.inside.end ≡ length (front payloads) = ap (λ (j : JournalText). j.end) c.self.view_is ∙ keeps.end in
    let first = frame_torn D.seen D.image payloads payload (c.self.inside.end + 1) c.args.disk.now (length c.args.frame.now) (ap (λ n. n + 1) ends) keeps.shows in
    let staged = frame_written D.seen D.image payloads payload (c.self.inside.end + 1) c.args.disk.now c.put.new.disk c.args.frame.now (ap (λ n. n + 1) ends) c.requires.framed.is keeps.shows c.in_ok-put.ensures.ok in
    let second = gate_torn_either D.seen D.image payloads payload c.self.inside.end c.put.new.disk ends c.requires.framed.sized staged in
    and_then D.moment D.image_since c.args.disk.now c.put.new.disk c.put-2.new.disk (HoldsEither payloads payload)
    (weaker D.moment D.image_since c.args.disk.now c.put.new.disk _ (HoldsEither payloads payload) c.put.ensures.during (λ file left. inl (first file left)))
    (weaker D.moment D.image_since c.put.new.disk c.put-2.new.disk _ (HoldsEither payloads payload) c.put-2.ensures.during second)
