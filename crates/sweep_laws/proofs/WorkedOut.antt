-- Working a shard, catching up, a sweep and an accepted write come to an end: by what they leave.
use Rattle.std.proofs.Common.{◌≡◌, ℕ, zero, suc, ◌+◌, ◌<◌, ◌≤◌, Option, Some, None, List, [], ◌∷◌, ◌++◌, length, refl, ap, sym, subst, arith, add-zero}
use Rattle.sched_plain.specs.declared.step.Pair.{Pair}
use Rattle.sched_plain.specs.declared.step.Step.{Step}
use Rattle.sched_plain.specs.declared.step.Step.TheVariants as steps
use Rattle.sched_plain.specs.declared.work.Work.{Work}
use Rattle.sched_plain.specs.declared.work.Work.TheVariants as works
use Rattle.expressions.specs.Calendar.{Calendar}
use Rattle.plain_words.specs.Lists.{head}
use Rattle.sched_plain.specs.History.{History, ◌upon◌, as_it_was, with_step}
use Rattle.sched_plain.specs.Moments.{moment_of}
use Rattle.sched_plain.specs.Changes.{changes_of}
use Rattle.sched_plain.specs.Rows.{rows_of, touched_by}
use Rattle.sched_plain.specs.Marks.{unentered}
use Rattle.sched_plain.specs.Seen.{seen}
use Rattle.sched_plain.specs.Work.{work}
use Rattle.sched_plain.proofs.HistoryLemmas.{extends_through}
use Rattle.sched_calls.specs.Serves.{End, ZoneSource, CatchUp, caught_up, next_incarnation, enters_first, Works, settled, enters, closes, begins, completes, swept, next_shard, wanted, wanted_enter, words_left, windows_of, drawn, begin_of, end_of, taking_of, release_of, needed_zone, zone_step, with_zone, words_in, ends_in}
use Rattle.sweep_laws.specs.RestLaws.{NoneLive}
use Rattle.sweep_laws.specs.LoadLaws.{load}
use Rattle.sweep_laws.specs.EndLaws.{firsts, Took, WorkedOut, CaughtUpOut, SweptOut, RestOut, WorkEnds, CatchUpsEnd, SweepsEnd, RestsEnd, WritesAreAccepted}
use Rattle.sweep_laws.proofs.Words.{behind, firsts_more, needs, drawn_same, words_rest, drawn_count}
use Rattle.sweep_laws.proofs.Rest.{none_taken, none_entered, none_closed, none_attempted, none_completed, never_waits}
use Rattle.sweep_laws.proofs.Drops.{close_lessens, attempt_lessens}
use Rattle.sweep_laws.proofs.Entering.{enter_lessens}
use Rattle.sweep_laws.proofs.Completing.{complete_lessens}
use Rattle.sweep_laws.proofs.Catching.{fewer_left}

-- ---- what was taken

took_nothing : (h : History) → Took h h 0 0
took_nothing h = record { from = as_it_was; words = sym (add-zero (words_in h)); ends = sym (add-zero (ends_in h)) }

took_both : (h mid after : History) (a b x y : ℕ) → Took h mid a x → Took mid after b y → Took h after (a + b) (x + y)
took_both h mid after a b x y one two =
    let words_one = one.words in
    let words_two = two.words in
    let ends_one = one.ends in
    let ends_two = two.ends in
    record { from = extends_through one.from two.from; words = omega (arith, words_one, words_two); ends = omega (arith, ends_one, ends_two) }

-- a step that draws no word and ends no attempt
took_step : (h after : History) (s : Step) (drew many : ℕ) → words_in (s upon h) ≡ words_in h → ends_in (s upon h) ≡ ends_in h → Took (s upon h) after drew many → Took h after drew many
took_step h after s drew many words ends took =
    let more_words = took.words in
    let more_ends = took.ends in
    record { from = extends_through (with_step s as_it_was) took.from; words = omega (arith, words, more_words); ends = omega (arith, ends, more_ends) }

-- ---- the wanted Enter, with just the words that it draws

-- how many it draws
abbrev drawing : Calendar → History → ℕ → ℕ → ℕ
drawing c h inc t = needs (windows_of h inc) (wanted c h inc t)

-- the Enter, from a row of words
abbrev entering : Calendar → History → ℕ → ℕ → (ℕ → ℕ) → Step
entering c h inc t row = wanted_enter c h inc t (firsts (drawing c h inc t) row)

took_enter : (c : Calendar) (h after : History) (inc t : ℕ) (row : ℕ → ℕ) (drew many : ℕ) → Took (entering c h inc t row upon h) after drew many
    → Took h after (drawing c h inc t + drew) many
took_enter c h after inc t row drew many took =
    let drawn_ = drawn_count (windows_of h inc) (wanted c h inc t) (firsts (drawing c h inc t) row) in
    let words = took.words in
    record { from = extends_through (with_step _ as_it_was) took.from; words = omega (arith, drawn_, words); ends = took.ends }

-- it is the same with more words behind them, and these are left
enter_same : (c : Calendar) (h : History) (inc t : ℕ) (row : ℕ → ℕ) (more : List ℕ) → entering c h inc t row ≡ wanted_enter c h inc t (firsts (drawing c h inc t) row ++ more)
enter_same c h inc t row more =
    ap (λ (pairs : List Pair). steps.Enter (moment_of t) inc pairs) (sym (drawn_same (windows_of h inc) (wanted c h inc t) row more))

left_same : (c : Calendar) (h : History) (inc t : ℕ) (row : ℕ → ℕ) (more : List ℕ) → more ≡ words_left c h inc t (firsts (drawing c h inc t) row ++ more)
left_same c h inc t row more = sym (words_rest (windows_of h inc) (wanted c h inc t) row more)

-- what goes on from it goes on from the Enter of all these words
enter_on : (P : History → List ℕ → Type 0) (c : Calendar) (h : History) (inc t : ℕ) (row : ℕ → ℕ) (drew : ℕ) (more : List ℕ)
    → P (entering c h inc t row upon h) (firsts drew (behind (drawing c h inc t) row) ++ more)
    → P (wanted_enter c h inc t (firsts (drawing c h inc t + drew) row ++ more) upon h) (words_left c h inc t (firsts (drawing c h inc t + drew) row ++ more))
enter_on P c h inc t row drew more on =
    let rest = firsts drew (behind (drawing c h inc t) row) ++ more in
    subst (λ (all : List ℕ). P (wanted_enter c h inc t all upon h) (words_left c h inc t all)) (sym (firsts_more (drawing c h inc t) drew row more))
    (subst (λ (left : List ℕ). P (wanted_enter c h inc t (firsts (drawing c h inc t) row ++ rest) upon h) left) (left_same c h inc t row rest)
    (subst (λ (s : Step). P (s upon h) rest) (enter_same c h inc t row rest) on))

-- ---- the work of a shard

-- what stands behind a step of the work: less of it
Onward : (c : Calendar) (t shard : ℕ) → History → Type 0
Onward c t shard h =
    (later : History) → load c later shard t < load c h shard t → NoneLive later shard → (words : ℕ → ℕ) (ends : ℕ → End) → WorkedOut c t shard later words ends

by_work : (c : Calendar) (t shard : ℕ) (h : History) (words : ℕ → ℕ) (ends : ℕ → End) → NoneLive h shard → Onward c t shard h
    → (w : Work) → work (seen c h) shard t ≡ w → WorkedOut c t shard h words ends
unfolding Onward
by_work c t shard h words ends none onward works.Settled e =
    record { drew = 0; many = 0; after = h; done = λ more_words more. settled e; took = took_nothing h; few = omega arith }
by_work c t shard h words ends none onward (works.Enter inc) e =
    let row_words = firsts (drawing c h inc t) words in
    let less = enter_lessens c h shard t inc row_words e in
    let rest = onward (entering c h inc t words upon h) less (none_entered h t inc shard (drawn (windows_of h inc) (wanted c h inc t) row_words) none) (behind (drawing c h inc t) words) ends in
    let few : rest.many ≤ load c (entering c h inc t words upon h) shard t = rest.few in
    record {
      drew = drawing c h inc t + rest.drew;
      many = rest.many;
      after = rest.after;
      done = λ more_words more.
          enters e
          (enter_on (λ (later : History) (list : List ℕ). Works c t shard later list (firsts rest.many ends ++ more) rest.after more_words more)
          c h inc t words rest.drew more_words (rest.done more_words more));
      took = took_enter c h rest.after inc t words rest.drew rest.many rest.took;
      few = omega (arith, less, few);
    }
by_work c t shard h words ends none onward (works.Close inc instant reason) e =
    let s = steps.Close (moment_of t) inc instant reason in
    let less = close_lessens c h shard t inc instant reason e in
    let rest = onward (s upon h) less (none_closed h t inc instant shard reason none) words ends in
    let few : rest.many ≤ load c (s upon h) shard t = rest.few in
    record {
      drew = rest.drew;
      many = rest.many;
      after = rest.after;
      done = λ more_words more. closes e (rest.done more_words more);
      took = took_step h rest.after s rest.drew rest.many refl refl rest.took;
      few = omega (arith, less, few);
    }
by_work c t shard h words ends none onward (works.Begin inc instant) e =
    let later : History = end_of h t inc instant (ends 0) upon begin_of h t inc instant upon h in
    let less = attempt_lessens c h shard t inc instant (ends 0) e in
    let rest = onward later less (none_attempted h t inc instant shard (ends 0) none) words (λ k. ends (k + 1)) in
    let few : rest.many ≤ load c later shard t = rest.few in
    let more_words = rest.took.words in
    let more_ends = rest.took.ends in
    record {
      drew = rest.drew;
      many = suc rest.many;
      after = rest.after;
      done = λ left more. begins e (rest.done left more);
      took = record {
        from = extends_through (with_step _ (with_step _ as_it_was)) rest.took.from;
        words = more_words;
        ends = omega (arith, more_ends);
      };
      few = omega (arith, less, few);
    }
by_work c t shard h words ends none onward (works.Complete inc) e =
    let s = steps.Complete (moment_of t) inc in
    let less = complete_lessens c h shard t inc e in
    let rest = onward (s upon h) less (none_completed h t inc shard none) words ends in
    let few : rest.many ≤ load c (s upon h) shard t = rest.few in
    record {
      drew = rest.drew;
      many = rest.many;
      after = rest.after;
      done = λ more_words more. completes e (rest.done more_words more);
      took = took_step h rest.after s rest.drew rest.many refl refl rest.took;
      few = omega (arith, less, few);
    }
by_work c t shard h words ends none onward (works.Live inc instant) e = absurd (never_waits c h shard t inc instant none e)

work_out : (n : ℕ) (c : Calendar) (t shard : ℕ) (h : History) → load c h shard t < n → NoneLive h shard → (words : ℕ → ℕ) (ends : ℕ → End) → WorkedOut c t shard h words ends
unfolding Onward
work_out zero c t shard h lt none words ends = absurd (omega (arith, lt))
work_out (suc n) c t shard h lt none words ends =
    by_work c t shard h words ends none (λ later less. work_out n c t shard later (omega (arith, lt, less))) (work (seen c h) shard t) refl

pub work_ends : WorkEnds
work_ends c t shard h words ends none = work_out (suc (load c h shard t)) c t shard h (omega arith) none words ends

-- ---- catching up

by_open : (c : Calendar) (t inc : ℕ) (incs : List ℕ) (h : History) (words : ℕ → ℕ)
    → ((later : History) → length (unentered c later inc t) < length (unentered c h inc t) → (row : ℕ → ℕ) → CaughtUpOut c t (inc ∷ incs) later row)
    → CaughtUpOut c t incs h words → (xs : List ℕ) → unentered c h inc t ≡ xs → CaughtUpOut c t (inc ∷ incs) h words
by_open c t inc incs h words again others [] e =
    record { drew = others.drew; after = others.after; done = λ more. next_incarnation e (others.done more); took = others.took }
by_open c t inc incs h words again others (instant ∷ xs) e =
    let open_ : head (unentered c h inc t) ≡ Some instant = ap (λ (l : List ℕ). head l) e in
    let rest = again (entering c h inc t words upon h) (fewer_left c h inc t instant (firsts (drawing c h inc t) words) open_) (behind (drawing c h inc t) words) in
    record {
      drew = drawing c h inc t + rest.drew;
      after = rest.after;
      done = λ more.
          enters_first open_
          (enter_on (λ (later : History) (list : List ℕ). CatchUp c t (inc ∷ incs) later list rest.after more) c h inc t words rest.drew more (rest.done more));
      took = took_enter c h rest.after inc t words rest.drew 0 rest.took;
    }

one_out : (n : ℕ) (c : Calendar) (t inc : ℕ) (incs : List ℕ) → ((later : History) (row : ℕ → ℕ) → CaughtUpOut c t incs later row)
    → (h : History) → length (unentered c h inc t) < n → (words : ℕ → ℕ) → CaughtUpOut c t (inc ∷ incs) h words
one_out zero c t inc incs others h lt words = absurd (omega (arith, lt))
one_out (suc n) c t inc incs others h lt words =
    by_open c t inc incs h words (λ later less. one_out n c t inc incs others later (omega (arith, lt, less))) (others h words) (unentered c h inc t) refl

pub catch_ups_end : CatchUpsEnd
catch_ups_end c t [] h words = record { drew = 0; after = h; done = λ more. caught_up; took = took_nothing h }
catch_ups_end c t (inc ∷ incs) h words =
    one_out (suc (length (unentered c h inc t))) c t inc incs (λ later row. catch_ups_end c t incs later row) h (omega arith) words

-- ---- a sweep

-- the rest of a sweep, where that of the shards behind this one is known
rest_out : (c : Calendar) (t shard : ℕ) (shards : List ℕ) (h : History) (words : ℕ → ℕ) (ends : ℕ → End) → NoneLive h shard
    → ((later : History) (row : ℕ → ℕ) (end_row : ℕ → End) → SweptOut c t shards later row end_row) → RestOut c t shard shards h words ends
rest_out c t shard shards h words ends none others =
    let worked = work_ends c t shard h words ends none in
    let swept_ : Step = steps.Swept (moment_of t) shard in
    let released : Step = release_of worked.after t shard in
    let rest = others (released upon swept_ upon worked.after) (behind worked.drew words) (behind worked.many ends) in
    let behind_shard : Took worked.after rest.after rest.drew rest.many =
    took_step worked.after rest.after swept_ rest.drew rest.many refl refl (took_step (swept_ upon worked.after) rest.after released rest.drew rest.many refl refl rest.took) in
    record {
      drew = worked.drew + rest.drew;
      many = worked.many + rest.many;
      after = rest.after;
      done = λ more_words more.
          let left = firsts rest.drew (behind worked.drew words) ++ more_words in
          let ends_left = firsts rest.many (behind worked.many ends) ++ more in
          record {
            mid = worked.after;
            some_left = left;
            some_ends = ends_left;
            worked =
                subst (λ (list : List ℕ). Works c t shard h list (firsts (worked.many + rest.many) ends ++ more) worked.after left ends_left)
                (sym (firsts_more worked.drew rest.drew words more_words))
                (subst (λ (list : List End). Works c t shard h (firsts worked.drew words ++ left) list worked.after left ends_left)
                (sym (firsts_more worked.many rest.many ends more)) (worked.done left ends_left));
            swept = rest.done more_words more;
          };
      took = took_both h worked.after rest.after worked.drew rest.drew worked.many rest.many worked.took behind_shard;
    }

pub sweeps_end : SweepsEnd
sweeps_end c t [] h words ends = record { drew = 0; many = 0; after = h; done = λ more_words more. swept; took = took_nothing h }
sweeps_end c t (shard ∷ shards) h words ends =
    let rest = rest_out c t shard shards (taking_of h t shard upon h) words ends (none_taken h t shard) (λ later row end_row. sweeps_end c t shards later row end_row) in
    record {
      drew = rest.drew;
      many = rest.many;
      after = rest.after;
      done = λ more_words more. let all = rest.done more_words more in next_shard all.worked all.swept;
      took = took_step h rest.after (taking_of h t shard) rest.drew rest.many refl refl rest.took;
    }

pub rests_end : RestsEnd
rests_end c t shard shards h words ends none =
    rest_out c t shard shards h words ends none (λ later row end_row. sweeps_end c t shards later row end_row)

-- ---- a write

took_zone : (t : ℕ) (zone : List ℕ) (bytes : Option (List ℕ)) (h after : History) (drew : ℕ) → Took (zone_step t zone bytes h) after drew 0 → Took h after drew 0
took_zone t zone None h after drew took = took
took_zone t zone (Some bytes) h after drew took = took_step h after (steps.Zone (moment_of t) zone bytes) drew 0 refl refl took

took_with_zone : (source : ZoneSource) (t : ℕ) (needed : Option (List ℕ)) (h after : History) (drew : ℕ) → Took (with_zone source t needed h) after drew 0 → Took h after drew 0
took_with_zone source t None h after drew took = took
took_with_zone source t (Some zone) h after drew took = took_zone t zone (source zone) h after drew took

pub writes_accepted : WritesAreAccepted
writes_accepted c source t h write words new allowed had =
    let needed = needed_zone h write in
    let caught = catch_ups_end c t (touched_by (rows_of (changes_of h)) write) (with_zone source t needed h) words in
    let took = took_with_zone source t needed h caught.after caught.drew caught.took in
    record {
      drew = caught.drew;
      after = steps.Change (moment_of t) write upon caught.after;
      done = λ more.
          record { new = new; allowed = allowed; zone = had; entered = caught.after; caught_up = caught.done more; added = refl; answered = refl };
      took = record { from = with_step (steps.Change (moment_of t) write) took.from; words = took.words; ends = took.ends };
    }
