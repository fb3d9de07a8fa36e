-- Lemmas on the items of a field, taken one by one.
use Rattle.std.proofs.Common.{◌≡◌, Bool, List, [], ◌∷◌, ◌++◌, length, refl, sym, ap, ◌∙◌, arith, le-leb, length-append, Option, Some, None}
use Rattle.plain_words.proofs.Booleans.{or_false}
use Rattle.std.specs.Prelude.{◌||◌, nat_le, unwrap_or, is_some}
use Rattle.std.specs.List.{list_any}
use Rattle.std.specs.Option.{option_map}
use Rattle.std.proofs.lemmas.List.Folds.{list_any-append}
use Rattle.plain_words.specs.Lists.{head}
use Rattle.expressions.specs.CronItems as cron
use Rattle.expr_grammar.specs.declared.item.Item.{Item}
use Rattle.expr_grammar.specs.Items.{item_of}

pub first_more : (first : Option Item) (item : Item) (all : List cron.Item) → option_map item_of first ≡ head all →
    option_map item_of (Some (unwrap_or first item)) ≡ head (all ++ item_of item ∷ [])
first_more (Some x) item [] is = cc
first_more (Some x) item (y ∷ ys) is = is
first_more None item [] is = refl
first_more None item (y ∷ ys) is = cc

pub several_more : (first : Option Item) (item : cron.Item) (all : List cron.Item) → option_map item_of first ≡ head all →
    is_some first ≡ nat_le 2 (length (all ++ item ∷ []))
several_more (Some x) item [] is = cc
several_more (Some x) item (y ∷ ys) is = sym (le-leb 2 _ (omega (arith, length-append ys (item ∷ []))))
several_more None item [] is = refl
several_more None item (y ∷ ys) is = cc

pub alone_more : (here : Bool) (item : cron.Item) (all : List cron.Item) → here ≡ list_any cron.stands_alone all →
    (here || cron.stands_alone item) ≡ list_any cron.stands_alone (all ++ item ∷ [])
alone_more here item all h = rw h (sym (list_any-append cron.stands_alone all (item ∷ []) ∙ ap (λ b. list_any cron.stands_alone all || b) (or_false (cron.stands_alone item))))
