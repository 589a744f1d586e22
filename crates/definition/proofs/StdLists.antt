-- The list functions of `specs/Lists.antt` that std has too, where an iterator's contract speaks of std's.
use mathlib.Core.Path.{◌≡◌, refl}
use mathlib.Core.List.{List, [], ◌∷◌}
use mathlib.Core.Bool.{Bool, true, false, ◌&&◌, ◌||◌}
use Rattle.std.proofs.Common.{cond}
use Rattle.std.specs.List.{list_any, list_all, filter as list_filter}
use Rattle.definition.specs.Lists.{choose, filter, any, all}

module _ {A : Type 0} (p : A → Bool) where
  pub any_is_std : (xs : List A) → any p xs ≡ list_any p xs
  unfolding any
  any_is_std [] = refl
  any_is_std (x ∷ xs) = go (p x) (any_is_std xs)
    where
      go : (b : Bool) → any p xs ≡ list_any p xs → choose b true (any p xs) ≡ (b || list_any p xs)
      go true ih = refl
      go false ih = ih

  pub all_is_std : (xs : List A) → all p xs ≡ list_all p xs
  unfolding all
  all_is_std [] = refl
  all_is_std (x ∷ xs) = go (p x) (all_is_std xs)
    where
      go : (b : Bool) → all p xs ≡ list_all p xs → choose b (all p xs) false ≡ (b && list_all p xs)
      go true ih = ih
      go false ih = refl

  pub filter_is_std : (xs : List A) → filter p xs ≡ list_filter p xs
  unfolding filter
  filter_is_std [] = refl
  filter_is_std (x ∷ xs) = go (p x) (filter_is_std xs)
    where
      go : (b : Bool) → filter p xs ≡ list_filter p xs → choose b (x ∷ filter p xs) (filter p xs) ≡ cond b (x ∷ list_filter p xs) (list_filter p xs)
      go true ih = rw ih
      go false ih = ih
