-- `monitor::some_above` meets its contract. Assumes nothing.
use Rattle.std.proofs.Common.{◌≡◌, Bool, ◌||◌, List, [], ◌∷◌, ltb, refl, rules, tests, ap, ◌∙◌}
use Rattle.std.specs.List.{list_any}
use Rattle.std.proofs.lemmas.Iterator.{YieldsList-from_slice}
use Rattle.std.proofs.lemmas.Iterator.Search.{any_from_yields_List}
use Rattle.common.specs.Lists.{some_entry}
use Rattle.monitor.proofs.some_above.Goals as goal

-- std's word for the same test of a list
any-is : {A : Type 0} (holds : A → Bool) (xs : List A) → list_any holds xs ≡ some_entry holds xs
unfolding some_entry
any-is holds [] = refl
any-is holds (x ∷ xs) = ap (λ (b : Bool). holds x || b) (any-is holds xs)

pub returns : goal.returns
returns c = any_from_yields_List (ltb c.args.limit) _ _ _ c.any.ensures.ran (YieldsList-from_slice c.args.entries cc) (λ x b q k. search (rules, tests)) ∙ any-is _ _
