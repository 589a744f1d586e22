-- The rows of directive definitions by the numbers of cards are those of the definition.
use mathlib.Core.Path.{◌≡◌, refl, sym, ap, subst, ◌∙◌}
use mathlib.Core.Bool.{Bool, true, false, ◌&&◌}
use mathlib.Core.List.{List, [], ◌∷◌, ◌++◌, map, append_assoc}
use mathlib.Core.Option.{Option, none, some}
use Prim.Native.Nat.{ℕ, ◌<◌}
use native.Mathlib.Omega.{arith}
use lib.Dec.{eqb}
use Rattle.definition.specs.Lists.{choose, found, filter, any, flat_map, firsts, All}
use Rattle.definition.specs.Names.{same_name}
use Rattle.definition.specs.Answers.{absent}
use Rattle.definition.specs.Cards.{is_root}
use Rattle.definition.specs.Headings.{Heading, is_kind, is_named, is_of, same_named, directives, directive_named, standing, number_of}
use Rattle.definition.specs.Catalogue.{Row, row, directive_row, directive_row_at, directive_rows}
use Rattle.definition.specs.Store.{cards_used_of}
use Rattle.definition.proofs.Lists.{filter_yes, filter_no, same_name_eq, same_name_refl}
use Rattle.definition.proofs.All.{all_filter, all_firsts, all_every, all_to}
use Rattle.store_reader.specs.Stored.{card_name, built_in_at}
use Rattle.from_ast_index.specs.Index.{heading_number}
use Rattle.from_ast_index.proofs.Lists.{chosen_both, filter_map, filter_both, firsts_map}
use Rattle.component.specs.Pushed.{alike_rows}
use Rattle.from_ast_index.specs.Index.{same_stored}
use Rattle.component.specs.RowsByCards.{standing_card, names_directive, standing_at, directive_rows_of, directive_rows_at}
use Rattle.component.proofs.Blocks.{At, at_kind, at_name, flat_picked, filter_passes, same_names}

-- ---- Lists.

filter_and {ℓ} : {A : Type ℓ} (p q : A → Bool) (xs : List A) → filter q (filter p xs) ≡ filter (λ x. p x && q x) xs
filter_and p q xs = filter_both p q (λ x. p x && q x) xs (all_every (λ x. choose (p x) (q x) false ≡ (p x && q x)) (λ x. chosen_both (p x) (q x)) xs)

flat_single {ℓ κ} : {A : Type ℓ} {B : Type κ} (f : A → B) (xs : List A) → flat_map (λ x. f x ∷ []) xs ≡ map f xs
unfolding flat_map
flat_single f [] = refl
flat_single f (x ∷ xs) = ap (λ (l : List _). f x ∷ l) (flat_single f xs)

flat_one {ℓ κ} : {A : Type ℓ} {B : Type κ} (P : A → Type 0) (f : A → List B) (g : A → B) → ((x : A) → P x → f x ≡ g x ∷ []) → (xs : List A) → All P xs →
    flat_map f xs ≡ map g xs
unfolding flat_map
flat_one P f g is [] h = refl
flat_one P f g is (x ∷ xs) h = λ i. is x h.0 i ++ flat_one P f g is xs h.1 i

any_inside {ℓ} : {A : Type ℓ} (p : A → Bool) (xs : List A) (x : A) (ys : List A) → p x ≡ true → any p (xs ++ (x ∷ ys)) ≡ true
unfolding any
any_inside p [] x ys e = rw e
any_inside p (z ∷ xs) x ys e = go (p z) (any_inside p xs x ys e)
  where
    go : (b : Bool) → any p (xs ++ (x ∷ ys)) ≡ true → choose b true (any p (xs ++ (x ∷ ys))) ≡ true
    go true h = refl
    go false h = h

-- each heading of a list has a name that is in the list
all_members : (gs hs : List Heading) → All (λ h. any (is_named h.name) (gs ++ hs) ≡ true) hs
unfolding is_named
all_members gs [] = tt
all_members gs (h ∷ hs) = (
  any_inside (is_named h.name) gs h hs (same_name_refl h.name),
  subst (λ (l : List Heading). All (λ k. any (is_named k.name) l ≡ true) hs) (append_assoc gs (h ∷ []) hs) (all_members (gs ++ (h ∷ [])) hs),
)

-- ---- The one that stands.

-- a definition that is not built-in stays
pub standing_stays : (c : Heading) (ds : List Heading) → c.built_in ≡ false → standing (some c) ds ≡ some c
unfolding standing
standing_stays c [] e = refl
standing_stays c (d ∷ ds) e = rw e

-- where there is one, one of them stands
module _ (P : Heading → Type 0) where
  pub record Stands (o : Option Heading) : Type 0 where
    pub one : Heading
    pub is : o ≡ some one
    pub holds : P one

  some_stands : (c : Heading) (ds : List Heading) → P c → All P ds → Stands (standing (some c) ds)
  unfolding standing
  some_stands c [] p h = record { one = c; is = refl; holds = p }
  some_stands c (d ∷ ds) p h = go c.built_in (some_stands d ds h.0 h.1)
    where
      go : (b : Bool) → Stands (standing (some d) ds) → Stands (choose b (standing (some d) ds) (some c))
      go true s = s
      go false s = record { one = c; is = refl; holds = p }

  pub stands_kept : (p : Heading → Bool) (ds : List Heading) → any p ds ≡ true → All P (filter p ds) → Stands (standing none (filter p ds))
  unfolding any filter standing
  stands_kept p [] e h = absurd (let q : false ≡ true = e in let z : ◌≡◌ {A = ℕ} 0 1 = cc in omega arith)
  stands_kept p (d ∷ ds) e h = go (p d) refl (stands_kept p ds)
    where
      go : (b : Bool) → p d ≡ b → (any p ds ≡ true → All P (filter p ds) → Stands (standing none (filter p ds))) → Stands (standing none (filter p (d ∷ ds)))
      go true q k = let l = filter_yes p d ds q in rw l (let a : All P (d ∷ filter p ds) = rw l at h in some_stands d (filter p ds) a.0 a.1)
      go false q k = let l = filter_no p d ds q in rw l (k (rw q at e) (rw l at h))

module _ (b : ℕ → Bool) (number : Heading → ℕ) where
  pub standing_number : (c : Heading) (ds : List Heading) → c.built_in ≡ true → All (λ h. b (number h) ≡ h.built_in) ds
      → found (standing (some c) ds) number absent ≡ standing_card b (number c) (map number ds)
  unfolding standing standing_card
  standing_number c [] e h = refl
  standing_number c (d ∷ ds) e h = go d.built_in refl (λ q. standing_number d ds q h.1)
    where
      go : (a : Bool) → d.built_in ≡ a → (d.built_in ≡ true → found (standing (some d) ds) number absent ≡ standing_card b (number d) (map number ds))
          → found (choose c.built_in (standing (some d) ds) (some c)) number absent
          ≡ choose (b (number d)) (standing_card b (number d) (map number ds)) (number d)
      go true q k = let t : b (number d) ≡ true = h.0 ∙ q in rw (e, t) (k q)
      go false q k = let t : b (number d) ≡ false = h.0 ∙ q in rw (e, t) (ap (λ (o : Option Heading). found o number absent) (standing_stays d ds q))

  pub standing_numbers : (ds : List Heading) → All (λ h. b (number h) ≡ h.built_in) ds →
      found (standing none ds) number absent ≡ standing_card b absent (map number ds)
  unfolding standing standing_card
  standing_numbers [] h = refl
  standing_numbers (d ∷ ds) h = go d.built_in refl
    where
      go : (a : Bool) → d.built_in ≡ a → found (standing (some d) ds) number absent
          ≡ choose (b (number d)) (standing_card b (number d) (map number ds)) (number d)
      go true q = let t : b (number d) ≡ true = h.0 ∙ q in rw t (standing_number d ds q h.1)
      go false q = let t : b (number d) ≡ false = h.0 ∙ q in rw t (ap (λ (o : Option Heading). found o number absent) (standing_stays d ds q))

-- ---- The rows.

module _ (text words : List ℕ) (hs : List Heading) (all : All (At text words) hs) where
  -- those of a name
  named_directives : (n : List ℕ) → filter (is_named n) (directives hs) ≡ filter (is_of 3 n) hs
  unfolding directives is_of
  named_directives n = filter_and (is_kind 3) (is_named n) hs

  of_name : (h : Heading) → At text words h → (g : Heading) → At text words g → names_directive text words h.number g.number ≡ is_of 3 h.name g
  unfolding names_directive
  of_name h a g b = λ i. is_of 3 (at_name text words h a i) (sym b.2 i)

  at_built_in : (h : Heading) → At text words h → built_in_at words h.number ≡ h.built_in
  at_built_in h a = sym (ap (λ (g : Heading). g.built_in) a.2)

  all_built_in : (gs : List Heading) → All (At text words) gs → All (λ h. built_in_at words h.number ≡ h.built_in) gs
  all_built_in gs h = all_to (At text words) (λ h. built_in_at words h.number ≡ h.built_in) at_built_in gs h

  pub standing_is : (h : Heading) → At text words h → standing_at text words (map heading_number hs) h.number ≡ number_of (directive_named h.name hs)
  unfolding standing_at directive_named number_of heading_number
  standing_is h a =
      ap (standing_card (built_in_at words) absent) (filter_map (λ (g : Heading). g.number) (is_of 3 h.name) (names_directive text words h.number) hs
      (all_to (At text words) (λ g. names_directive text words h.number g.number ≡ is_of 3 h.name g) (of_name h a) hs all))
      ∙ sym (standing_numbers (built_in_at words) (λ (g : Heading). g.number) (filter (is_of 3 h.name) hs)
      (all_built_in (filter (is_of 3 h.name) hs) (all_filter (At text words) (is_of 3 h.name) hs all)))
      ∙ ap (λ (l : List Heading). found (standing none l) (λ (g : Heading). g.number) absent) (sym (named_directives h.name))

  -- ---- Where one of a name is, one stands.

  pub record DirectiveAt (h : Heading) : Type 0 where
    pub one : Heading
    pub is : directive_named h.name hs ≡ some one
    pub stored : one.number < cards_used_of words
    pub named : card_name text words one.number ≡ h.name

  named_stands : (n : List ℕ) → any (is_named n) (directives hs) ≡ true → Stands (λ g. At text words g × (is_named n g ≡ true)) (directive_named n hs)
  unfolding directive_named directives
  named_stands n e = stands_kept (λ g. At text words g × (is_named n g ≡ true)) (is_named n) (filter (is_kind 3) hs) e
      (filter_passes (At text words) (is_named n) (filter (is_kind 3) hs) (all_filter (At text words) (is_kind 3) hs all))

  directive_at : (h : Heading) → any (is_named h.name) (directives hs) ≡ true → DirectiveAt h
  unfolding is_named
  directive_at h e =
      let s = named_stands h.name e in
      record {
        one = s.one;
        is = s.is;
        stored = s.holds.0.0;
        named = at_name text words s.one s.holds.0 ∙ sym (same_name_eq h.name s.one.name s.holds.1);
      }

  all_directives : All DirectiveAt (directives hs)
  all_directives = all_to (λ h. any (is_named h.name) (directives hs) ≡ true) DirectiveAt directive_at (directives hs) (all_members [] (directives hs))

  -- ---- The rows, one for each.

  row_of : Heading → Row
  row_of h = row 3 (number_of (directive_named h.name hs)) absent

  row_is : (h : Heading) → DirectiveAt h → directive_row_at hs h ≡ row_of h ∷ []
  unfolding directive_row_at directive_row number_of row_of
  row_is h d = rw d.is

  rows_alike : (g h : Heading) → DirectiveAt g → DirectiveAt h → alike_rows (same_stored text words) (row_of g) (row_of h) ≡ same_named g h
  unfolding same_named is_named alike_rows row_of number_of is_root
  rows_alike g h d f =
      rw (d.is, f.is) (same_names text words d.one.number f.one.number d.stored f.stored ∙ λ i. same_name (d.named i) (f.named i))

  row_at_card : (h : Heading) → At text words h → directive_rows_of text words (map heading_number hs) h.number ≡ choose (is_kind 3 h) (row_of h ∷ []) []
  unfolding directive_rows_of is_kind row_of
  row_at_card h a = λ i. choose (eqb (at_kind text words h a i) 3) (row 3 (standing_is h a i) absent ∷ []) []

  directives_are : filter (is_kind 3) hs ≡ directives hs
  unfolding directives
  directives_are = refl

  directives_all : All DirectiveAt (filter (is_kind 3) hs)
  directives_all = rw directives_are all_directives

  pub directives_rows : directive_rows_at text words (map heading_number hs) ≡ directive_rows hs
  unfolding directive_rows_at directive_rows heading_number
  directives_rows =
      ap (firsts (alike_rows (same_stored text words)) []) (
      flat_picked (At text words) (is_kind 3) (λ (h : Heading). h.number) (directive_rows_of text words (map heading_number hs))
      (λ h. row_of h ∷ []) row_at_card hs all
      ∙ flat_single row_of (filter (is_kind 3) hs)
      )
      ∙ firsts_map row_of same_named (alike_rows (same_stored text words)) DirectiveAt rows_alike [] (filter (is_kind 3) hs) tt directives_all
      ∙ sym (flat_one DirectiveAt (directive_row_at hs) row_of row_is (firsts same_named [] (filter (is_kind 3) hs))
      (all_firsts DirectiveAt same_named [] (filter (is_kind 3) hs) directives_all))
      ∙ ap (λ (l : List Heading). flat_map (directive_row_at hs) (firsts same_named [] l)) directives_are
