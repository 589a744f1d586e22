-- What holds between two drawings, of documents ds and later of ds ++ es, with whatever adopt switch at either.
use mathlib.Core.Path.{◌≡◌, refl, ◌∙◌, ap, subst}
use mathlib.Core.List.{List, [], ◌++◌}
use mathlib.Core.Bool.{Bool, true, false}
use mathlib.Core.Option.{some}
use Prim.Native.Nat.{ℕ}
use Rattle.definition.specs.Lists.{All, Prefix}
use Rattle.definition.specs.Headings.{Document, Heading, headings}
use Rattle.definition.specs.Catalogue.{type_row}
use Rattle.definition.specs.Errors.{reading_errors}
use Rattle.definition.specs.Merge.{merge}
use Rattle.definition.specs.declared.FieldFound.TheVariants.{Explicit}
use Rattle.definition.specs.Answers.{Found}
use Rattle.definition.specs.LentRows.{held}
use Rattle.definition.specs.Lookups.{Block, type_named, is_row_of, field_named, is_subtype_of}
use Rattle.definition.specs.Growth.{Brings, place_of, list_of}
use Rattle.definition.proofs.AddedHeadings.{reading_grows, definition_stays}
use Rattle.definition.proofs.DocumentHeadings.{Named}
use Rattle.definition.proofs.BuiltRows.{type_block}
use Rattle.definition.proofs.TypesGrow.{block_found, place_stays, lists_stay, field_stays, subtype_stays, member_stays}
use Rattle.definition.proofs.DocumentHeadings.{headings_grow, headings_named}

-- A type that a definition brings has its heading card's row.
pub card_found : (a : Bool) (ds : List Document) (n : List ℕ) (d : Heading) → Brings ds n d →
    (b : Block) × (type_named (held ds) (merge a ds).rows n ≡ some b) × (b.head ≡ type_row d)
unfolding merge type_block
card_found a ds n d h = (type_block (headings ds) d, block_found (held ds) n a (headings ds) (headings_named ds) d h, refl)

-- and it is brought by the same definition later
pub brings_stays : (ds es : List Document) (n : List ℕ) (d : Heading) → Brings ds n d → Brings (ds ++ es) n d
brings_stays ds es n d h = let g = headings_grow ds es in rw g.1 (definition_stays n (headings ds) g.0 d h)

module _ (a b : Bool) (ds es : List Document) where
  -- Reading errors stand first again.
  pub errors_begin : Prefix (merge a ds).reading_errors (merge b (ds ++ es)).reading_errors
  unfolding merge
  errors_begin = let g = headings_grow ds es in (reading_errors (headings ds) g.0, ap (reading_errors []) g.1 ∙ reading_grows (headings ds) g.0)

  named_later : All (Named (held (ds ++ es))) (headings ds ++ (headings_grow ds es).0)
  named_later = subst (All (Named (held (ds ++ es)))) (headings_grow ds es).1 (headings_named (ds ++ es))

  -- Of a type n that a definition brings, d being its heading: its place and its lists.
  module _ (n : List ℕ) (d : Heading) (h : Brings ds n d) where
    pub same_place : place_of (held ds) (merge a ds).rows n ≡ place_of (held (ds ++ es)) (merge b (ds ++ es)).rows n
    unfolding merge
    same_place =
        let g = headings_grow ds es in
        rw g.1 (place_stays (held ds) (held (ds ++ es)) a b (headings ds) g.0 (headings_named ds) named_later n d h)

    pub lists_begin : (k : ℕ) → Prefix (list_of (held ds) (merge a ds).rows n k) (list_of (held (ds ++ es)) (merge b (ds ++ es)).rows n k)
    unfolding merge
    lists_begin k =
        let g = headings_grow ds es in
        rw g.1 (lists_stay (held ds) (held (ds ++ es)) a b (headings ds) g.0 (headings_named ds) named_later n d h k)

    -- An explicit field found is found again, by the same card.
    pub same_field : (f : List ℕ) (c : ℕ) →
        field_named (held ds) (merge a ds).rows n f ≡ Found (Explicit c) → field_named (held (ds ++ es)) (merge b (ds ++ es)).rows n f ≡ Found (Explicit c)
    unfolding merge
    same_field f c e =
        let g = headings_grow ds es in
        rw g.1 (field_stays (held ds) (held (ds ++ es)) a b (headings ds) g.0 (headings_named ds) named_later n d h f c e)

    -- A subtype stays a subtype, if a definition brings it too; of a union, in any case.
    pub same_subtype : (s : List ℕ) (e : Heading) → Brings ds s e →
        is_subtype_of (held ds) (merge a ds).rows n s ≡ true → is_subtype_of (held (ds ++ es)) (merge b (ds ++ es)).rows n s ≡ true
    unfolding merge
    same_subtype s e i y =
        let g = headings_grow ds es in
        rw g.1 (subtype_stays (held ds) (held (ds ++ es)) a b (headings ds) g.0 (headings_named ds) named_later n d h s e i y)

    pub same_member : (s : List ℕ) → is_row_of 7 (type_row d) ≡ false →
        is_subtype_of (held ds) (merge a ds).rows n s ≡ true → is_subtype_of (held (ds ++ es)) (merge b (ds ++ es)).rows n s ≡ true
    unfolding merge
    same_member s i y =
        let g = headings_grow ds es in
        rw g.1 (member_stays (held ds) (held (ds ++ es)) a b (headings ds) g.0 (headings_named ds) named_later n d h s i y)
