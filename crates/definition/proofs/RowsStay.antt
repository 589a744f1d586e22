-- Rows that 26 passes are passed again when more documents are held.
use mathlib.Core.Path.{◌≡◌, refl}
use mathlib.Core.List.{List, [], ◌∷◌, ◌++◌}
use mathlib.Core.Bool.{Bool, true, false, ◌&&◌, ◌||◌}
use mathlib.Core.Option.{Option, none, some}
use Prim.Native.Nat.{ℕ, zero, suc, ◌%◌}
use native.Mathlib.Omega.{arith}
use lib.Dec.{eqb, leb}
use lib.ListN.{length, get_elem?}
use borrow.Author.Tests.{ne_eqb, leb-true, lt-leb}
use Rattle.definition.specs.Lists.{All, choose, found, all}
use Rattle.definition.specs.Names.{same_name}
use Rattle.definition.specs.Answers.{absent}
use Rattle.definition.specs.Cards.{is_root, is_type, is_extension}
use Rattle.definition.specs.Headings.{Document, NamedCard}
use Rattle.definition.specs.Catalogue.{Row, default_name}
use Rattle.definition.specs.Refusals.{cards_held}
use Rattle.definition.specs.LentRows.{held_from, held, name_numbered, lent_rows, is_row_named, is_type_row, is_type_row_named, first_type_row, is_default_root}
use Rattle.definition.specs.LentRows.{order_passes, cards_once, wanted_kind, card_passes, cards_pass, origin_passes, origins_pass, default_root_passes}
use Rattle.definition.specs.LentRows.{default_roots_pass, row_clauses, passes, rows_refusal}
use Rattle.definition.proofs.Tests.{and_true}
use Rattle.definition.proofs.DocumentHeadings.{held_joined}
use Rattle.definition.proofs.All.{all_to, first_cong, all_pass, pass_all}

-- The cards held stay held by their numbers.
still_there : (cs more : List NamedCard) (i : ℕ) (c : NamedCard) → get_elem? cs i ≡ some c → get_elem? (cs ++ more) i ≡ some c
still_there [] more i c e = absurd cc
still_there (x ∷ cs) more zero c e = e
still_there (x ∷ cs) more (suc i) c e = still_there cs more i c e

module _ (cs more : List NamedCard) where
  -- A test of a card that is held.
  found_more : (i : ℕ) (f : NamedCard → Bool) → found (get_elem? cs i) f false ≡ true → found (get_elem? (cs ++ more) i) f false ≡ true
  found_more i f e = go (get_elem? cs i) refl e
    where
      go : (o : Option NamedCard) → get_elem? cs i ≡ o → found o f false ≡ true → found (get_elem? (cs ++ more) i) f false ≡ true
      go none q e = let z : false ≡ true = e in cc
      go (some c) q e = rw (still_there cs more i c q) e

  card_more : (r : Row) → card_passes cs r ≡ true → card_passes (cs ++ more) r ≡ true
  unfolding card_passes
  card_more r e = go (eqb r.card absent) refl e
    where
      go : (b : Bool) → eqb r.card absent ≡ b →
          choose b (eqb r.what 4 || is_default_root r) (found (get_elem? cs r.card) (λ c. eqb c.kind (wanted_kind r)) false) ≡ true →
          choose b (eqb r.what 4 || is_default_root r) (found (get_elem? (cs ++ more) r.card) (λ c. eqb c.kind (wanted_kind r)) false) ≡ true
      go true q e = e
      go false q e = found_more r.card (λ c. eqb c.kind (wanted_kind r)) e

  origin_more : (r : Row) → origin_passes cs r ≡ true → origin_passes (cs ++ more) r ≡ true
  unfolding origin_passes
  origin_more r e = go (eqb r.origin absent) e
    where
      go : (b : Bool) → (b || found (get_elem? cs r.origin) (λ c. is_extension c.kind) false) ≡ true →
          (b || found (get_elem? (cs ++ more) r.origin) (λ c. is_extension c.kind) false) ≡ true
      go true e = e
      go false e = found_more r.origin (λ c. is_extension c.kind) e

  -- A type row's card is held, so its name stays.
  name_more : (i : ℕ) (c : NamedCard) → get_elem? cs i ≡ some c → name_numbered cs i ≡ name_numbered (cs ++ more) i
  unfolding name_numbered
  name_more i c e = rw (e, still_there cs more i c e)

  no_type : (r : Row) → is_type_row r ≡ true → (eqb r.what 4 || is_default_root r) ≡ false
  unfolding is_type_row is_type is_default_root is_root
  no_type r e =
      let q = and_true (leb 5 r.what) (leb r.what 10) e in
      let l = leb-true 5 r.what q.0 in
      let u = leb-true r.what 10 q.1 in
      rw (ne_eqb r.what 4 (λ z. omega arith), lt-leb 26 r.what (omega arith))

  type_held : (r : Row) → is_type_row r ≡ true → card_passes cs r ≡ true → name_numbered cs r.card ≡ name_numbered (cs ++ more) r.card
  unfolding card_passes
  type_held r t e = go (eqb r.card absent) (get_elem? cs r.card) refl refl
    where
      go : (b : Bool) (o : Option NamedCard) → eqb r.card absent ≡ b → get_elem? cs r.card ≡ o →
          name_numbered cs r.card ≡ name_numbered (cs ++ more) r.card
      go true o p q = let z : false ≡ true = rw (p, no_type r t) at e in cc
      go false none p q = let z : false ≡ true = rw (p, q) at e in cc
      go false (some c) p q = name_more r.card c q

  named_more : (n : List ℕ) (r : Row) → card_passes cs r ≡ true → is_type_row_named cs n r ≡ is_type_row_named (cs ++ more) n r
  unfolding is_type_row_named is_row_named
  named_more n r e = go (is_type_row r) refl
    where
      go : (b : Bool) → is_type_row r ≡ b → (is_type_row r && same_name n (name_numbered cs r.card)) ≡
          (is_type_row r && same_name n (name_numbered (cs ++ more) r.card))
      go true t = rw (type_held r t e)
      go false t = rw t

  first_more : (n : List ℕ) (rs : List Row) → All (λ r. card_passes cs r ≡ true) rs → first_type_row cs rs n ≡ first_type_row (cs ++ more) rs n
  unfolding first_type_row
  first_more n rs a =
      first_cong (is_type_row_named cs n) (is_type_row_named (cs ++ more) n) rs
      (all_to (λ r. card_passes cs r ≡ true) (λ r. is_type_row_named cs n r ≡ is_type_row_named (cs ++ more) n r) (named_more n) rs a)

  default_more : (rs : List Row) → All (λ r. card_passes cs r ≡ true) rs → (r : Row) → default_root_passes cs rs r ≡ true →
      default_root_passes (cs ++ more) rs r ≡ true
  unfolding default_root_passes
  default_more rs a r e = rw (first_more (default_name r.what) rs a) at e

  clauses_more : (rs : List Row) → All (λ clause. passes cs rs clause ≡ true) row_clauses → All (λ clause. passes (cs ++ more) rs clause ≡ true) row_clauses
  unfolding row_clauses passes order_passes cards_once cards_pass origins_pass default_roots_pass
  clauses_more rs a =
      let cards = pass_all (card_passes cs) rs a.1.1.0 in
      let origins = pass_all (origin_passes cs) rs a.1.1.1.0 in
      let defaults = pass_all (default_root_passes cs rs) rs a.1.1.1.1.0 in (
        order rs a.0,
        (
          a.1.0,
          (
            all_pass (card_passes (cs ++ more)) rs (all_to (λ r. card_passes cs r ≡ true) (λ r. card_passes (cs ++ more) r ≡ true) card_more rs cards),
            (
              all_pass (origin_passes (cs ++ more)) rs (all_to (λ r. origin_passes cs r ≡ true) (λ r. origin_passes (cs ++ more) r ≡ true) origin_more rs origins),
              (
                all_pass (default_root_passes (cs ++ more) rs) rs
                    (all_to (λ r. default_root_passes cs rs r ≡ true) (λ r. default_root_passes (cs ++ more) rs r ≡ true) (default_more rs cards) rs defaults),
                tt,
              ),
            ),
          ),
        ),
      )
    where
      order : (rs : List Row) → order_passes cs rs ≡ true → order_passes (cs ++ more) rs ≡ true
      order [] e = e
      order (r ∷ rs) e = e

pub rows_stay : (ds es : List Document) (ws : List ℕ) → rows_refusal ds ws ≡ 0 → rows_refusal (ds ++ es) ws ≡ 0
unfolding rows_refusal
rows_stay ds es ws e = go (eqb (length ws % 3) 0) (all (passes (held ds) (lent_rows ws)) row_clauses) refl refl e
  where
    go : (b c : Bool) → eqb (length ws % 3) 0 ≡ b → all (passes (held ds) (lent_rows ws)) row_clauses ≡ c → ◌≡◌ {A = ℕ} (choose b (choose c 0 26) 26) 0 →
        rows_refusal (ds ++ es) ws ≡ 0
    go true true p q e =
        let more = held_from (cards_held ds) es in
        let r : all (passes (held (ds ++ es)) (lent_rows ws)) row_clauses ≡ true =
        rw (held_joined ds es) (all_pass (passes (held ds ++ more) (lent_rows ws)) row_clauses
        (clauses_more (held ds) more (lent_rows ws) (pass_all (passes (held ds) (lent_rows ws)) row_clauses q))) in
        rw (p, r)
    go true false p q e = absurd (omega (arith, e))
    go false c p q e = absurd (omega (arith, e))
