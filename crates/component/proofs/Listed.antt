-- The rows of one kind of a list of components: the firsts among the rows of that kind, each after the other.
use mathlib.Core.Path.{◌≡◌, refl, sym, ap, ◌∙◌}
use mathlib.Core.Bool.{Bool, true}
use mathlib.Core.List.{List, [], ◌∷◌, ◌++◌, map}
use Prim.Native.Nat.{ℕ}
use borrow.Author.Tests.{eqb-true}
use lib.Dec.{eqb}
use Rattle.definition.specs.Lists.{filter, flat_map, firsts, All}
use Rattle.definition.specs.Headings.{Heading, alike}
use Rattle.definition.specs.Catalogue.{Component, alike_components, kept, Row, component_row, is_component_of, list_of_kind}
use Rattle.definition.proofs.Tests.{and_true}
use Rattle.definition.proofs.Lists.{map_append, filter_append, filter_firsts}
use Rattle.definition.proofs.All.{all_filter}
use Rattle.from_ast_index.proofs.Lists.{firsts_map}
use Rattle.component.specs.Pushed.{alike_rows, rows_of_kind}

alike_kind : (k : ℕ) (c d : Component) → alike_components c d ≡ true → is_component_of k c ≡ is_component_of k d
unfolding alike_components alike is_component_of
alike_kind k c d e = let q = eqb-true c.part.kind d.part.kind (and_true (eqb c.part.kind d.part.kind) _ e).0 in rw q

module _ (same : ℕ → ℕ → Bool) (G : Component → Type 0) (agree : (c d : Component) → G c → G d →
    alike_rows same (component_row c) (component_row d) ≡ alike_components c d) where
  pub listed_sticky : (cs : List Component) (k : ℕ) → All G cs → list_of_kind (kept cs) k ≡ firsts (alike_rows same) [] (rows_of_kind k cs)
  unfolding list_of_kind kept rows_of_kind filter
  listed_sticky cs k g =
      ap (map component_row) (filter_firsts alike_components (is_component_of k) (alike_kind k) [] cs)
      ∙ sym (firsts_map component_row alike_components (alike_rows same) G agree [] (filter (is_component_of k) cs) tt (all_filter G (is_component_of k) cs g))

module _ (k : ℕ) where
  pub kind_append : (cs ds : List Component) → rows_of_kind k (cs ++ ds) ≡ rows_of_kind k cs ++ rows_of_kind k ds
  unfolding rows_of_kind
  kind_append cs ds = ap (map component_row) (filter_append (is_component_of k) cs ds)
      ∙ map_append component_row (filter (is_component_of k) cs) (filter (is_component_of k) ds)

  pub kind_flat : (f : Heading → List Component) (hs : List Heading) → rows_of_kind k (flat_map f hs) ≡ flat_map (λ h. rows_of_kind k (f h)) hs
  unfolding flat_map rows_of_kind filter
  kind_flat f [] = refl
  kind_flat f (h ∷ hs) = kind_append (f h) (flat_map f hs) ∙ ap (λ (l : List Row). rows_of_kind k (f h) ++ l) (kind_flat f hs)
