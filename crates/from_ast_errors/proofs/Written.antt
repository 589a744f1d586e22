-- Writing all errors: what the arrays and rows give is the definition's, and what is pushed is written and counted.
use mathlib.Core.Path.{◌≡◌, refl, sym, ◌∙◌, ap, ap₂, subst}
use mathlib.Core.List.{List, [], ◌∷◌, ◌++◌, map}
use mathlib.Core.Bool.{Bool, true, false}
use Prim.Native.Nat.{ℕ, ◌+◌, ◌-◌, ◌≤◌, ◌<◌}
use native.Mathlib.Omega.{arith}
use lib.ListN.{length, get_or, length-append}
use Rattle.definition.specs.Lists.{All, filter, flat_map, firsts}
use Rattle.definition.specs.Headings.{Heading, is_type_extension, same_named, orphans, schema_definition, number_of}
use Rattle.definition.specs.Catalogue.{Row, rows}
use Rattle.definition.specs.Errors.{reading_errors, drawing_errors}
use Rattle.definition.specs.Outcomes.{words_of_row}
use Rattle.definition.specs.Store.{cards_used_of, sound}
use Rattle.store_reader.specs.Stored.{card_kind, stored_headings}
use Rattle.std.specs.Borrow.{MutBor}
use Rattle.from_ast_index.specs.declared.Index.{Index}
use Rattle.from_ast_index.specs.Index.{heading_number}
use Rattle.from_ast_index.proofs.Lists.{all_picture}
use Rattle.from_ast_collisions.specs.declared.pushing.Errors.{Errors}
use Rattle.from_ast_collisions.specs.Pushing.{push_all, Capacity, no_errors}
use Rattle.from_ast_collisions.specs.Earlier.{View}
use Rattle.from_ast_collisions.specs.Placing.{word_values}
use Rattle.from_ast_collisions.specs.ErrorsByCards.{reading_errors_at, drawing_errors_at}
use Rattle.from_ast_collisions.specs.Views.{view, Held, HeldHeadings, HeldExtension, HeldExtensions, Ascending}
use Rattle.from_ast_errors.specs.Written.{all_errors, reading_errors_in, drawing_errors_in, ErrorsAsked, ErrorsWritten}
use Rattle.definition.proofs.Lists.{filter_nil, filter_yes, filter_no}
use Rattle.definition.proofs.All.{all_append, all_filter, all_firsts, all_with}
use Rattle.definition.proofs.BuiltWords.{words_length}
use Rattle.from_ast_collisions.proofs.Rows.{HeadingTold, extends_kind, schema_shape}
use Rattle.from_ast_collisions.proofs.Known.{number_in, heading_of, Rising, Known, kind_told}
use Rattle.from_ast_collisions.proofs.Reading.{reading_found}
use Rattle.from_ast_collisions.proofs.Orphans.{Orphan, adoptees_known}
use Rattle.from_ast_collisions.proofs.Schema.{drawing_found}
use Rattle.from_ast_collisions.proofs.Legal.{legal_reading, legal_drawing}
use Rattle.from_ast_collisions.proofs.Stored.{known_stored, legal_known}
use Rattle.from_ast_errors.proofs.Fits.{rows_fit_lem}
use Rattle.from_ast_collisions.proofs.Tallies.{Legal, pushed_total, pushed_words, pushed_tallies, capacity_empty}

second_word : (r : Row) (rs : List Row) → get_or (flat_map words_of_row (r ∷ rs)) 1 0 ≡ r.card
unfolding flat_map words_of_row
second_word r rs = refl

numbers_map : (hs : List Heading) → map heading_number hs ≡ map number_in hs
unfolding heading_number
numbers_map hs = refl

-- Headings' numbers rise, and so do those that are kept.
rising_filter : (p : Heading → Bool) (es : List Heading) → Rising es → Rising (filter p es)
rising_filter p [] r = rw (filter_nil p) tt
rising_filter p (e ∷ es) r = go (p e) refl (rising_filter p es r.1)
  where
    go : (b : Bool) → p e ≡ b → Rising (filter p es) → Rising (filter p (e ∷ es))
    go true t ih = rw (filter_yes p e es t) (all_filter (λ f. e.number < f.number) p es r.0, ih)
    go false t ih = rw (filter_no p e es t) ih

ascending : (es : List Heading) → Rising es → Ascending (map number_in es)
ascending [] r = tt
ascending (e ∷ es) r = (all_picture number_in (λ n. e.number < n) es r.0, ascending es r.1)

module _ (i : Index) (ok : sound i.collection.text.now i.collection.words.now ≡ true) where
  abbrev words : List ℕ
  words = i.collection.words.now

  abbrev hs : List Heading
  hs = stored_headings i.collection.text.now i.collection.words.now

  abbrev v : View
  v = view i

  known : Known v hs
  known =
      known_stored i.collection.text.now i.collection.words.now i.headings.now i.owners.now i.types.now i.orphans.now i.extensions.now ok i.listed

  -- ---- What the arrays hold.

  headings_told : i.headings.now ≡ map number_in hs
  headings_told = i.listed.headings_are ∙ numbers_map hs

  extensions_told : i.extensions.now ≡ map number_in (filter is_type_extension hs)
  extensions_told = i.listed.extensions_are ∙ numbers_map (filter is_type_extension hs)

  orphans_told : i.orphans.now ≡ map number_in (firsts same_named [] (orphans hs))
  orphans_told = i.listed.orphans_are ∙ numbers_map (firsts same_named [] (orphans hs))

  -- A heading's card has its kind.
  kinds_most : All (λ h. card_kind words h.number ≤ 17) hs
  kinds_most =
      all_with (HeadingTold (heading_of v)) (λ h. h.kind ≤ 17) (λ h. card_kind words h.number ≤ 17) (λ h t l. let e = kind_told v h t in
      omega arith) hs known.told known.most

  pub headings_held : HeldHeadings words i.headings.now
  headings_held =
      subst (HeldHeadings words) (sym headings_told)
      (all_picture number_in (λ c. (c < cards_used_of words) × (card_kind words c ≤ 17)) hs
      (all_with (λ h. h.number < cards_used_of words) (λ h. card_kind words h.number ≤ 17)
      (λ h. (h.number < cards_used_of words) × (card_kind words h.number ≤ 17)) (λ h l k. (l, k)) hs known.held kinds_most))

  pub extensions_held : Held words i.extensions.now
  extensions_held =
      subst (Held words) (sym extensions_told)
      (all_picture number_in (λ c. c < cards_used_of words) (filter is_type_extension hs)
      (all_filter (λ h. h.number < cards_used_of words) is_type_extension hs known.held))

  pub extensions_ascend : Ascending i.extensions.now
  extensions_ascend = subst Ascending (sym extensions_told) (ascending (filter is_type_extension hs) (rising_filter is_type_extension hs known.rising))

  pub orphans_held : Bool → HeldExtensions words i.orphans.now
  unfolding orphans
  orphans_held adopt =
      subst (HeldExtensions words) (sym orphans_told)
      (all_picture number_in (HeldExtension words) (firsts same_named [] (orphans hs))
      (all_with (λ h. h.number < cards_used_of words) (Orphan v hs) (λ h. HeldExtension words h.number)
      (λ h l g. let k = extends_kind h g.extends in let e = kind_told v h g.told in
      record { stored = l; least = omega arith; most = omega arith }) (firsts same_named [] (orphans hs))
      (all_firsts (λ h. h.number < cards_used_of words) same_named [] (orphans hs) (all_filter (λ h. h.number < cards_used_of words) _ hs known.held))
      (adoptees_known v adopt hs known)))

module _ (i : Index) (adopt : Bool) (built errors : List ℕ) (q : ErrorsAsked i adopt built errors) where
  -- ---- The rows.

  pub rows_few : length built < word_values
  rows_few =
      omega (
        arith,
        ap length q.rows_are,
        words_length (rows adopt (hs i q.store_sound)),
        rows_fit_lem i.collection.text.now i.collection.words.now q.store_sound adopt,
      )

  schema_is : get_or built 1 0 ≡ number_of (schema_definition (hs i q.store_sound))
  schema_is =
      ap (λ l. get_or l 1 0) (q.rows_are ∙ ap (flat_map words_of_row) (schema_shape (v i q.store_sound) (heading_of (v i q.store_sound)) adopt (hs i q.store_sound)
      (known i q.store_sound).told (known i q.store_sound).named))
      ∙ second_word _ _

  -- ---- The errors.

  reading_is : reading_errors_in i built ≡ reading_errors [] (hs i q.store_sound)
  reading_is =
      ap₂ (λ r s. reading_errors_at (view i) r s i.extensions.now [] i.headings.now) q.rows_are schema_is
      ∙ (ap₂ (λ e h. reading_errors_at (view i) (flat_map words_of_row (rows adopt (hs i q.store_sound))) (number_of (schema_definition (hs i q.store_sound))) e [] h)
      (extensions_told i q.store_sound) (headings_told i q.store_sound)
      ∙ reading_found (view i) adopt (hs i q.store_sound) (known i q.store_sound))

  drawing_is : drawing_errors_in adopt i built ≡ drawing_errors adopt (hs i q.store_sound)
  drawing_is =
      ap₂ (λ r s. drawing_errors_at adopt (view i) r s i.extensions.now i.orphans.now i.headings.now) q.rows_are schema_is
      ∙ (ap₂ (λ e h. drawing_errors_at adopt (view i) (flat_map words_of_row (rows adopt (hs i q.store_sound)))
      (number_of (schema_definition (hs i q.store_sound))) e i.orphans.now h) (extensions_told i q.store_sound) (headings_told i q.store_sound)
      ∙ (ap (λ o. drawing_errors_at adopt (view i) (flat_map words_of_row (rows adopt (hs i q.store_sound)))
      (number_of (schema_definition (hs i q.store_sound))) (map number_in (filter is_type_extension (hs i q.store_sound))) o
      (map number_in (hs i q.store_sound))) (orphans_told i q.store_sound)
      ∙ drawing_found (view i) adopt (hs i q.store_sound) (known i q.store_sound)))

  legal : All Legal (all_errors adopt (hs i q.store_sound))
  unfolding all_errors
  legal =
      let l = legal_known i.collection.text.now i.collection.words.now i.headings.now i.owners.now i.types.now i.orphans.now i.extensions.now q.store_sound
      i.listed in
      all_append Legal (reading_errors [] (hs i q.store_sound)) (drawing_errors adopt (hs i q.store_sound)) (legal_reading [] (hs i q.store_sound) tt l
      (known i q.store_sound).most) (legal_drawing adopt (hs i q.store_sound) l)

  all_pushed : reading_errors_in i built ++ drawing_errors_in adopt i built ≡ all_errors adopt (hs i q.store_sound)
  unfolding all_errors
  all_pushed = ap₂ (λ l k. l ++ k) reading_is drawing_is

  -- There is room for them.
  pub all_capacity : (w : MutBor (List ℕ)) → w.now ≡ errors → Capacity (no_errors w) (reading_errors_in i built ++ drawing_errors_in adopt i built)
  all_capacity w e =
      subst (Capacity (no_errors w)) (sym all_pushed)
      (capacity_empty w (all_errors adopt (hs i q.store_sound)) (rw e q.errors_capacity_lem) q.errors_most legal)

  module _ (w : MutBor (List ℕ)) (e : w.now ≡ errors) (r : Errors)
      (p : r ≡ push_all (no_errors w) (reading_errors_in i built ++ drawing_errors_in adopt i built)) (n : ℕ)
      (m : n ≡ (push_all (no_errors w) (reading_errors_in i built)).tallies.total) where
    all : r ≡ push_all (no_errors w) (all_errors adopt (hs i q.store_sound))
    all = p ∙ ap (push_all (no_errors w)) all_pushed

    read : n ≡ length (reading_errors_in i built)
    read = m ∙ (pushed_total (no_errors w) (reading_errors_in i built) ∙ omega arith)

    both : r.tallies.total ≡ length (reading_errors_in i built) + length (drawing_errors_in adopt i built)
    both =
        ap (λ (l : Errors). l.tallies.total) p
        ∙ (pushed_total (no_errors w) (reading_errors_in i built ++ drawing_errors_in adopt i built)
        ∙ omega (arith, length-append (reading_errors_in i built) (drawing_errors_in adopt i built)))

    pub total_least : n ≤ r.tallies.total
    total_least = omega (arith, read, both)

    -- What is left when both are pushed.
    pub errors_written : (after : List ℕ) → after ≡ r.words.now →
        ErrorsWritten adopt (hs i q.store_sound) errors after (record { reading = n; drawing = r.tallies.total - n; tallies = r.tallies })
    errors_written after a = record {
      errors_are =
          a
          ∙ (ap (λ (l : Errors). l.words.now) all
          ∙ (pushed_words (no_errors w) (all_errors adopt (hs i q.store_sound)) (rw e (omega (arith, q.errors_capacity_lem)))
          ∙ rw e refl));
      reading_count = read ∙ ap length reading_is;
      drawing_count = omega (arith, read, both, ap length drawing_is);
      tallies_are = ap (λ (l : Errors). l.tallies.counts) all ∙ pushed_tallies w (all_errors adopt (hs i q.store_sound)) legal;
      total_is = ap (λ (l : Errors). l.tallies.total) all ∙ (pushed_total (no_errors w) (all_errors adopt (hs i q.store_sound)) ∙ omega arith);
    }
