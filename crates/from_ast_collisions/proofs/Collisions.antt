-- Collisions by looking up: the errors of parts that are added to a list are those of the parts for which another card stands in the finished rows.
use mathlib.Core.Path.{◌≡◌, refl, sym, ◌∙◌, ap}
use mathlib.Core.List.{List, [], ◌∷◌, ◌++◌, map}
use mathlib.Core.Bool.{Bool, true, false}
use mathlib.Core.Option.{Option, none, some}
use Prim.Native.Nat.{ℕ, ◌≤◌}
use lib.Dec.{eqb}
use Rattle.definition.specs.Lists.{All, choose, found, find, flat_map}
use Rattle.definition.specs.Headings.{NamedCard, alike}
use Rattle.definition.specs.Errors.{error, collision, collisions, collision_number}
use Rattle.std.specs.Prelude.{Some, None}
use Rattle.from_ast_collisions.specs.Earlier.{View, stands_for, earlier_under, collision_with, collision_under}
use Rattle.from_ast_collisions.proofs.Walks.{flat_cong, map_flat}
use Rattle.from_ast_collisions.proofs.Repeats.{times, repeat_in, repeat_use, repeats_whole}
use Rattle.from_ast_collisions.proofs.Earlier.{is_in, standing_among}
use Rattle.from_ast_collisions.proofs.Rows.{Stands}

collision_with_lem : (k : ℕ) (ps : List NamedCard) (x : NamedCard) → collision_with k x (standing_among ps x) ≡ map (collision k) (repeat_in ps x)
unfolding collision_with standing_among repeat_in collision
collision_with_lem k ps x = go (find (alike x) ps)
  where
    one : (y : NamedCard) (b : Bool) → choose b [] (error (collision_number k x.kind) x.number y.number ∷ []) ≡
        map (collision k) (choose b [] ((x, y) ∷ []))
    one y true = refl
    one y false = refl

    go : (o : Option NamedCard) → collision_with k x (found o (λ p. Some p.number) None) ≡
        map (collision k) (found o (λ y. choose (eqb y.number x.number) [] ((x, y) ∷ [])) [])
    go none = refl
    go (some y) = one y (eqb y.number x.number)

pub collision_under_lem : (v : View) (rows : List ℕ) (k d : ℕ) (ps : List NamedCard) (x : NamedCard) →
    (eqb x.kind 20 ≡ false → earlier_under k d (stands_for v x) rows ≡ standing_among ps x) →
    collision_under v rows k d x ≡ map (collision k) (repeat_in ps x)
unfolding collision_under
collision_under_lem v rows k d ps x h = go (eqb x.kind 20) refl
  where
    go : (b : Bool) → eqb x.kind 20 ≡ b → collision_under v rows k d x ≡ map (collision k) (repeat_in ps x)
    go true e = rw (e, repeat_use ps x e)
    go false e = rw (e) (ap (collision_with k x) (h e) ∙ collision_with_lem k ps x)

-- The parts ps, added to the parts `seen`, in a list whose merged parts are those, ps and some more.
pub collisions_found : (v : View) (rows under : List ℕ) (k d : ℕ) (all seen ps rest : List NamedCard) → Stands v rows under k d all →
    all ≡ seen ++ (ps ++ rest) →
    All (λ x. is_in x.kind under ≡ true) ps → All (λ x. times x.number (seen ++ ps) ≤ 1) ps →
    flat_map (collision_under v rows k d) ps ≡ collisions k seen ps
unfolding collisions
collisions_found v rows under k d all seen ps rest s e i o =
    flat_cong (collision_under v rows k d) (λ x. map (collision k) (repeat_in all x)) (λ x. is_in x.kind under ≡ true)
    (λ x h. collision_under_lem v rows k d all x (λ plain. s x plain h)) ps i
    ∙ (sym (map_flat (collision k) (repeat_in all) ps) ∙ ap (map (collision k)) (ap (λ l. flat_map (repeat_in l) ps) e ∙ sym (repeats_whole seen ps rest o)))
