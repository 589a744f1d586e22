-- A refused call leaves the store and every slice that it is lent to write into; calls that only read leave the store.
use mathlib.Core.Path.{◌≡◌, refl, ap}
use mathlib.Core.List.{List, [], ◌∷◌}
use mathlib.Core.Bool.{Bool, true, false, ◌||◌}
use mathlib.Core.Option.{Option, none, some}
use Prim.Native.Nat.{ℕ}
use lib.Dec.{eqb}
use Rattle.definition.specs.declared.Answer.{Answer}
use Rattle.definition.specs.Lists.{choose, found}
use Rattle.definition.specs.Answers.{answer}
use Rattle.definition.specs.Merge.{merge}
use Rattle.definition.specs.Account.{Account}
use Rattle.definition.specs.Refusals.{document, opening_refusal, filing_refusal, rows_capacity, errors_capacity, origins_capacity, groups_capacity}
use Rattle.definition.specs.Store.{account_in, too_short, store_refusal, opened_text, opened_words, filed_text, filed_words, adopting_words, ignoring_words}
use Rattle.definition.specs.LentRows.{rows_refusal}
use Rattle.definition.specs.Outcomes.{parse, StoreOutcome, unchanged, accepted, open_store, add_ast, turned, adopt_orphan_extensions}
use Rattle.definition.specs.Outcomes.{ignore_builtin_redefinitions, unbuilt, merged_into, is_short, build_of, build, unlisted, listed_in, unless_refused}
use Rattle.definition.specs.Outcomes.{origins_of, extensions_in, implementers_of, iter_origins, extensions, implementers_map}
use Rattle.definition.specs.Calls.{opening, filing, adopting, ignoring, building, checking, root_asked, field_asked, subtype_asked, origins_asked}
use Rattle.definition.specs.Calls.{extensions_asked, implementers_asked, parsing, Store, store, leaves, Effect, writes, reads, effect, store_step, step_store}
use Rattle.definition.specs.Calls.{only_reads}
use Rattle.definition.specs.Demands.{RefusedLeaves, ReadOnlyLeaves}
use Rattle.definition.proofs.ParseOutcome.{parse_is}

-- ---- Calls that write into the store.

-- An outcome that is refused has the text and words that the call was lent.
abbrev Stays : List ℕ → List ℕ → StoreOutcome → Type 0
Stays text words o = (o.answer.number ≡ 0 → ⊥) → (o.text ≡ text) × (o.words ≡ words)

unchanged_stays : (text words : List ℕ) (a : Answer) → Stays text words (unchanged text words a)
unfolding unchanged
unchanged_stays text words a r = (refl, refl)

accepted_stays : (text words t w : List ℕ) → Stays text words (accepted t w)
unfolding accepted
accepted_stays text words t w r = absurd (r refl)

tried_stays : (text words t w : List ℕ) (o : Option Answer) → Stays text words (found o (unchanged text words) (accepted t w))
tried_stays text words t w none = accepted_stays text words t w
tried_stays text words t w (some a) = unchanged_stays text words a

opening_stays : (text words lent ws : List ℕ) → Stays text words (open_store text words lent ws)
unfolding open_store
opening_stays text words lent ws = go (too_short text words)
  where
    go : (b : Bool) → Stays text words (choose b (unchanged text words (answer 21 0))
        (found (opening_refusal lent ws) (unchanged text words)
        (accepted (opened_text text (document false lent ws)) (opened_words words (document false lent ws)))))
    go true = unchanged_stays text words (answer 21 0)
    go false = tried_stays text words (opened_text text (document false lent ws)) (opened_words words (document false lent ws)) (opening_refusal lent ws)

filing_stays : (text words lent ws : List ℕ) → Stays text words (add_ast text words lent ws)
unfolding add_ast
filing_stays text words lent ws = go (eqb (store_refusal text words) 0)
  where
    go : (b : Bool) → Stays text words (choose b
        (found (filing_refusal (account_in text words) lent ws) (unchanged text words)
        (accepted (filed_text text words (document false lent ws)) (filed_words words (document false lent ws))))
        (unchanged text words (answer (store_refusal text words) 0)))
    go true = tried_stays text words (filed_text text words (document false lent ws)) (filed_words words (document false lent ws))
        (filing_refusal (account_in text words) lent ws)
    go false = unchanged_stays text words (answer (store_refusal text words) 0)

turned_stays : (text words on : List ℕ) → Stays text words (turned text words on)
unfolding turned
turned_stays text words on = go (eqb (store_refusal text words) 0)
  where
    go : (b : Bool) → Stays text words (choose b (accepted text on) (unchanged text words (answer (store_refusal text words) 0)))
    go true = accepted_stays text words text on
    go false = unchanged_stays text words (answer (store_refusal text words) 0)

left_as : (s : Store) (o : StoreOutcome) → (o.text ≡ s.text) × (o.words ≡ s.words) → (leaves o).0 ≡ s
unfolding leaves store
left_as s o e = λ i. record { text = e.0 i; words = e.1 i }

-- ---- Calls that write into other slices.

drawing_stays : (text words rows errors : List ℕ) → ((build text words rows errors).drawing.number ≡ 0 → ⊥) →
    ((build text words rows errors).rows ≡ rows) × ((build text words rows errors).errors ≡ errors)
unfolding build build_of unbuilt merged_into
drawing_stays text words rows errors = go (eqb (store_refusal text words) 0) (is_short rows_capacity rows || is_short errors_capacity errors)
  where
    go : (b c : Bool) →
        let o = choose b (choose c (unbuilt rows errors 7) (merged_into rows errors (merge (account_in text words).adopt (account_in text words).documents)))
        (unbuilt rows errors (store_refusal text words)) in
        (o.drawing.number ≡ 0 → ⊥) → (o.rows ≡ rows) × (o.errors ≡ errors)
    go true true r = (refl, refl)
    go true false r = absurd (r refl)
    go false c r = (refl, refl)

listing_stays : (a : Account) (n : ℕ) (rows : List ℕ) (capacity : ℕ) (lent : List ℕ) (count : ℕ) (ws : List ℕ) →
    let o = choose (eqb n 0) (unless_refused a rows capacity lent (listed_in lent count ws)) (unlisted lent n) in
    (o.answer.number ≡ 0 → ⊥) → o.list ≡ lent
unfolding unless_refused unlisted listed_in
listing_stays a n rows capacity lent count ws = go (eqb n 0) (eqb (rows_refusal a.documents rows) 0) (is_short capacity lent)
  where
    go : (b c d : Bool) →
        let o = choose b (choose c (choose d (unlisted lent 7) (listed_in lent count ws)) (unlisted lent (rows_refusal a.documents rows))) (unlisted lent n) in
        (o.answer.number ≡ 0 → ⊥) → o.list ≡ lent
    go true true true r = refl
    go true true false r = absurd (r refl)
    go true false d r = refl
    go false c d r = refl

pub parse_stays : (text lent : List ℕ) → ((parse text lent).answer.number ≡ 0 → ⊥) → (parse text lent).list ≡ lent
unfolding unlisted listed_in
parse_stays text lent =
    parse_is text lent (λ o. (o.answer.number ≡ 0 → ⊥) → o.list ≡ lent) (λ n ws r. absurd (r refl)) (λ r. refl) (λ r. refl) (λ r. refl)
    (λ p r. refl) (λ p r. refl)

pub refused_leaves_lem : RefusedLeaves
unfolding step_store leaves adopt_orphan_extensions ignore_builtin_redefinitions iter_origins extensions implementers_map origins_of extensions_in implementers_of
refused_leaves_lem s (opening lent ws) r = (left_as s (open_store s.text s.words lent ws) (opening_stays s.text s.words lent ws r), refl)
refused_leaves_lem s (filing lent ws) r = (left_as s (add_ast s.text s.words lent ws) (filing_stays s.text s.words lent ws r), refl)
refused_leaves_lem s adopting r = (
  left_as s (turned s.text s.words (adopting_words s.words))
      (turned_stays s.text s.words (adopting_words s.words) r),
  refl,
)
refused_leaves_lem s ignoring r = (
  left_as s (turned s.text s.words (ignoring_words s.words))
      (turned_stays s.text s.words (ignoring_words s.words) r),
  refl,
)
refused_leaves_lem s (building rows errors) r = let e = drawing_stays s.text s.words rows errors r in (refl, λ i. e.0 i ∷ e.1 i ∷ [])
refused_leaves_lem s (checking rows) r = (refl, refl)
refused_leaves_lem s (root_asked rows op) r = (refl, refl)
refused_leaves_lem s (field_asked rows type field) r = (refl, refl)
refused_leaves_lem s (subtype_asked rows general other) r = (refl, refl)
refused_leaves_lem s (origins_asked rows lent) r =
    (refl, ap (λ l. l ∷ []) (listing_stays (account_in s.text s.words) (store_refusal s.text s.words) rows origins_capacity lent _ _ r))
refused_leaves_lem s (extensions_asked rows lent) r =
    (refl, ap (λ l. l ∷ []) (listing_stays (account_in s.text s.words) (store_refusal s.text s.words) rows origins_capacity lent _ _ r))
refused_leaves_lem s (implementers_asked rows lent) r =
    (refl, ap (λ l. l ∷ []) (listing_stays (account_in s.text s.words) (store_refusal s.text s.words) rows groups_capacity lent _ _ r))
refused_leaves_lem s (parsing text lent) r = (refl, ap (λ l. l ∷ []) (parse_stays text lent r))

pub read_only_leaves_lem : ReadOnlyLeaves
unfolding step_store
read_only_leaves_lem s c r = go (effect c) r
  where
    go : (e : Effect) → only_reads e ≡ true → (store_step s e).0 ≡ s
    go (writes refusal next outcome) r = let z : false ≡ true = r in cc
    go (reads told reply lent) r = refl
