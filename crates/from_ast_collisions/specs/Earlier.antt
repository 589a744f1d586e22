-- Which card stands for a part, by the finished rows' words: the row of its owner, and under it the first row that stands for the part.
use Rattle.std.specs.Prelude.{List, [], ◌∷◌, Bool, ◌&&◌, ◌||◌, ℕ, ◌+◌, eqb, ltb, Option, Some, None, drop}
use Rattle.definition.specs.Lists.{choose, flat_map}
use Rattle.definition.specs.Names.{same_name}
use Rattle.definition.specs.Cards.{is_root}
use Rattle.definition.specs.Headings.{NamedCard}
use Rattle.definition.specs.Errors.{Error, error, collision_number}

-- What is read of a card by its number: the first `used` numbers are cards'.
pub record View : Type 0 where
  pub used : ℕ
  pub kind : ℕ → ℕ
  pub name : ℕ → List ℕ
  pub built_in : ℕ → Bool
  pub ignored : ℕ → Bool
  -- Of a heading: its parts, and the first definition of its name, or `-`.
  pub parts : ℕ → List NamedCard
  pub owner : ℕ → ℕ

-- Whether a row of what w and card c stands for a part: roots are told by their kind alone, and a default root's card is no stored one.
unfoldable pub stands_for : View → NamedCard → ℕ → ℕ → Bool
stands_for v p w c = eqb w p.kind && (is_root p.kind || (ltb c v.used && same_name p.name (v.name c)))

-- The card of the first row that passes, before the next row that is no part's.
unfoldable pub earlier_in : (ℕ → ℕ → Bool) → List ℕ → Option ℕ
earlier_in test [] = None
earlier_in test (w ∷ []) = None
earlier_in test (w ∷ (c ∷ [])) = None
earlier_in test (w ∷ (c ∷ (o ∷ ws))) =
    let next = earlier_in test ws in
    choose (ltb w 20) None (choose (test w c) (Some c) next)

-- The same under the first row of what k and card d.
unfoldable pub is_row_of : ℕ → ℕ → ℕ → ℕ → Bool
is_row_of k d w c = eqb w k && eqb c d

unfoldable pub earlier_under : ℕ → ℕ → (ℕ → ℕ → Bool) → List ℕ → Option ℕ
earlier_under k d test [] = None
earlier_under k d test (w ∷ []) = None
earlier_under k d test (w ∷ (c ∷ [])) = None
earlier_under k d test (w ∷ (c ∷ (o ∷ ws))) =
    let here = earlier_in test ws in
    let next = earlier_under k d test ws in
    choose (is_row_of k d w c) here next

-- How many words stand before the first row of what k and card d; all where there is none.
unfoldable pub row_offset : ℕ → ℕ → List ℕ → ℕ
row_offset k d [] = 0
row_offset k d (w ∷ []) = 0
row_offset k d (w ∷ (c ∷ [])) = 0
row_offset k d (w ∷ (c ∷ (o ∷ ws))) = let next : ℕ = 3 + row_offset k d ws in choose (is_row_of k d w c) 0 next

-- The rows under that row; none where there is no such row.
unfoldable pub rows_under : ℕ → ℕ → List ℕ → List ℕ
rows_under k d rows = drop (3 + row_offset k d rows) rows

-- The error of a part of what has kind k, where the part that stands is another.
unfoldable pub collision_with : ℕ → NamedCard → Option ℕ → List Error
collision_with k p None = []
collision_with k p (Some c) = choose (eqb c p.number) [] (error (collision_number k p.kind) p.number c ∷ [])

-- The error of a part that is merged into the row of what k and card d; directive uses all stay.
unfoldable pub collision_under : View → List ℕ → ℕ → ℕ → NamedCard → List Error
collision_under v rows k d p =
    let collision = collision_with k p (earlier_under k d (stands_for v p) rows) in
    choose (eqb p.kind 20) [] collision

-- The errors of the parts of the heading with card c, merged into that row.
unfoldable pub merge_errors : View → List ℕ → ℕ → ℕ → ℕ → List Error
merge_errors v rows k d c = flat_map (collision_under v rows k d) (v.parts c)
