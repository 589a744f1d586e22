-- Closed examples beside the table: each refusal number, each lookup, and merges that the table does not touch.
use Rattle.std.specs.Prelude.{◌≡◌, refl, List, [], ◌∷◌, true, false, replicate}
use Rattle.std.proofs.Math.Option.{Option, none, some}
use Rattle.definition.specs.declared.OperationType.TheVariants.{Query, Subscription}
use Rattle.definition.specs.declared.FieldFound.TheVariants.{Explicit, Typename, Schema}
use Rattle.definition.specs.Names.{bytes}
use Rattle.definition.specs.Answers.{answer, Found, NoSuchType, NoSuchField, Subtype, NotSubtype}
use Rattle.definition.specs.Cards.{document_fault}
use Rattle.definition.specs.Headings.{Document}
use Rattle.definition.specs.Catalogue.{row}
use Rattle.definition.specs.Errors.{error}
use Rattle.definition.specs.Account.{Account}
use Rattle.definition.specs.Refusals.{opening_refusal, filing_refusal, text_capacity, document_capacity, card_capacity, origins_capacity, groups_capacity}
use Rattle.definition.specs.Store.{words_capacity}
use Rattle.definition.specs.Lookups.{span}
use Rattle.definition.specs.Outcomes.{unchanged, adopt_orphan_extensions, unbuilt, build, check_of, no_root, root_of, field_of_type}
use Rattle.definition.specs.Outcomes.{subtype_answer, origins_of, extensions_in, implementers_of, listed_in, unlisted}
use Rattle.definition.specs.Calls.{opened_account as opened_with, filing, ignoring, account_after}
use Rattle.definition.specs.Unfolded.{unfolded}
use Rattle.definition.specs.Shown.{∅, Source, source, shows, shown, collected, merged, asked, scalar_int}

-- ---- Refusals of a lent document: 1 to 6, 27 and 28, 23, 24, 25. The first faulty card decides, then the first that holds of 2, 3, 4,
-- 27, 28 and 5.

refused_1 : document_fault (bytes "scalar Int") (5 ∷ 0 ∷ 10 ∷ 7 ∷ []) ≡ some (answer 1 0)
unfolding unfolded
refused_1 = refl

-- Kinds 18 and 19 lie between the headings and the parts.
refused_2 : document_fault (bytes "scalar Int") (18 ∷ 0 ∷ 10 ∷ 7 ∷ 3 ∷ []) ≡ some (answer 2 0)
unfolding unfolded
refused_2 = refl

-- Offset and length are added without wrapping at 32 bits.
refused_3 : document_fault (bytes "scalar Int") (5 ∷ 4294967295 ∷ 2 ∷ 0 ∷ 1 ∷ []) ≡ some (answer 3 0)
unfolding unfolded
refused_3 = refl

-- A schema's name outside its item: 4 comes before 27, though the name is wrongly present as well.
refused_4 : document_fault (bytes "schema") (4 ∷ 0 ∷ 6 ∷ 7 ∷ 1 ∷ []) ≡ some (answer 4 0)
unfolding unfolded
refused_4 = refl

-- An interface whose name is empty but present: it is another span than the item.
refused_4_interface : document_fault (bytes "A BB") (6 ∷ 0 ∷ 4 ∷ 0 ∷ 1 ∷ 21 ∷ 2 ∷ 2 ∷ 2 ∷ 0 ∷ []) ≡ some (answer 4 1)
unfolding unfolded
refused_4_interface = refl

-- A schema's name must be the pair 0, 0: another pair of length 0 is a present name.
refused_27 : document_fault (bytes "schema") (4 ∷ 0 ∷ 6 ∷ 1 ∷ 0 ∷ []) ≡ some (answer 27 0)
unfolding unfolded
refused_27 = refl

refused_27_present : document_fault (bytes "schema") (4 ∷ 0 ∷ 6 ∷ 0 ∷ 6 ∷ []) ≡ some (answer 27 0)
unfolding unfolded
refused_27_present = refl

-- An interface without a name: 4 is never told of an absent one.
refused_27_interface : document_fault (bytes "A BB") (6 ∷ 0 ∷ 4 ∷ 0 ∷ 1 ∷ 21 ∷ 2 ∷ 2 ∷ 0 ∷ 0 ∷ []) ≡ some (answer 27 1)
unfolding unfolded
refused_27_interface = refl

-- An operation may lack a name.
accepted_operation : document_fault (bytes "{a}") (1 ∷ 0 ∷ 3 ∷ 0 ∷ 0 ∷ []) ≡ none
unfolding unfolded
accepted_operation = refl

-- A name that is present and empty is no Name.
refused_28 : document_fault (bytes "ab") (5 ∷ 0 ∷ 2 ∷ 1 ∷ 0 ∷ []) ≡ some (answer 28 0)
unfolding unfolded
refused_28 = refl

-- 28 comes before 5, by its place and not by its number.
refused_28_part : document_fault (bytes "9") (22 ∷ 0 ∷ 1 ∷ 0 ∷ 1 ∷ []) ≡ some (answer 28 0)
unfolding unfolded
refused_28_part = refl

refused_5_part : document_fault (bytes "a") (22 ∷ 0 ∷ 1 ∷ 0 ∷ 1 ∷ []) ≡ some (answer 5 0)
unfolding unfolded
refused_5_part = refl

-- A part without heading, before an unknown kind.
refused_5 : document_fault (bytes "ab") (22 ∷ 0 ∷ 1 ∷ 0 ∷ 1 ∷ 99 ∷ 1 ∷ 1 ∷ 1 ∷ 1 ∷ []) ≡ some (answer 5 0)
unfolding unfolded
refused_5 = refl

-- Document 0 with a type twice, and with a barred kind after that: the barred kind is told.
refused_6 : opening_refusal (bytes "scalar Int scalar Int") (5 ∷ 0 ∷ 10 ∷ 7 ∷ 3 ∷ 5 ∷ 11 ∷ 10 ∷ 18 ∷ 3 ∷ []) ≡ some (answer 6 1)
unfolding unfolded
refused_6 = refl

refused_6_barred : opening_refusal (bytes "scalar Int scalar Int schema") (5 ∷ 0 ∷ 10 ∷ 7 ∷ 3 ∷ 5 ∷ 11 ∷ 10 ∷ 18 ∷ 3 ∷ 4 ∷ 22 ∷ 6 ∷ 0 ∷ 0 ∷ []) ≡
    some (answer 6 2)
unfolding unfolded
refused_6_barred = refl

abbrev empty : Document
empty = record { text = []; cards = []; ignored = false }

abbrev holding : List Document → Account
holding ds = record { documents = ds; adopt = false; ignore = false }

refused_23 : filing_refusal (holding (replicate document_capacity empty)) [] [] ≡ some (answer 23 0)
unfolding unfolded
refused_23 = refl

accepted_64 : filing_refusal (holding (replicate 63 empty)) [] [] ≡ none
unfolding unfolded
accepted_64 = refl

refused_24 : filing_refusal (holding (record { text = replicate text_capacity 0; cards = []; ignored = false } ∷ [])) (0 ∷ []) [] ≡ some (answer 24 0)
unfolding unfolded
refused_24 = refl

abbrev card_int : Document
card_int = record { text = []; cards = replicate card_capacity (record { kind = 5; item_at = 0; item_len = 10; name_at = 7; name_len = 3 }); ignored = false }

refused_25 : filing_refusal (holding (card_int ∷ [])) (bytes "scalar Int") (5 ∷ 0 ∷ 10 ∷ 7 ∷ 3 ∷ []) ≡ some (answer 25 0)
unfolding unfolded
refused_25 = refl

-- ---- Refusals of a store and of slices: 21, 22, 7.

refused_21 : adopt_orphan_extensions [] [] ≡ unchanged [] [] (answer 21 0)
unfolding unfolded
refused_21 = refl

-- A store that was never opened.
refused_22 : build (replicate text_capacity 0) (replicate words_capacity 0) [] [] ≡ unbuilt [] [] 22
unfolding unfolded
refused_22 = refl

-- ---- Merges.

abbrev opened_int : Account
opened_int = opened_with scalar_int.text scalar_int.words

-- The ignore switch does nothing for a document that was filed before it was turned on.
late_ignore : merged (account_after opened_int (filing scalar_int.text scalar_int.words ∷ ignoring ∷ filing scalar_int.text scalar_int.words ∷ [])) ≡
    shows (row 4 ∅ ∅ ∷ row 5 0 ∅ ∷ []) (error 5 1 ∅ ∷ []) []
unfolding unfolded
late_ignore = refl

-- A built-in directive that is replaced keeps its place.
abbrev directives_d_e : Source
directives_d_e = source "directive @d on FIELD directive @e on FIELD" (3 ∷ 0 ∷ 21 ∷ 11 ∷ 1 ∷ 3 ∷ 22 ∷ 21 ∷ 33 ∷ 1 ∷ [])

directive_place : shown false false directives_d_e (source "directive @d on FIELD" (3 ∷ 0 ∷ 21 ∷ 11 ∷ 1 ∷ []) ∷ []) ≡
    shows (row 4 ∅ ∅ ∷ row 3 2 ∅ ∷ row 3 1 ∅ ∷ []) [] []
unfolding unfolded
directive_place = refl

-- Directive uses all stay.
directive_uses : shown false false scalar_int (source "scalar A @x @x" (5 ∷ 0 ∷ 14 ∷ 7 ∷ 1 ∷ 20 ∷ 9 ∷ 2 ∷ 10 ∷ 1 ∷ 20 ∷ 12 ∷ 2 ∷ 13 ∷ 1 ∷ []) ∷ []) ≡
    shows (row 4 ∅ ∅ ∷ row 5 0 ∅ ∷ row 5 1 ∅ ∷ row 20 2 ∅ ∷ row 20 3 ∅ ∷ []) [] []
unfolding unfolded
directive_uses = refl

-- The third of three equal names has the first as earlier card.
third_field : shown false false scalar_int (
    source "type A{a:Int a:Int a:Int}" (6 ∷ 0 ∷ 25 ∷ 5 ∷ 1 ∷ 22 ∷ 7 ∷ 5 ∷ 7 ∷ 1 ∷ 22 ∷ 13 ∷ 5 ∷ 13 ∷ 1 ∷ 22 ∷ 19 ∷ 5 ∷ 19 ∷ 1 ∷ []) ∷ []) ≡
    shows (row 4 ∅ ∅ ∷ row 5 0 ∅ ∷ row 6 1 ∅ ∷ row 22 2 ∅ ∷ []) (error 12 3 2 ∷ error 12 4 2 ∷ []) []
unfolding unfolded
third_field = refl

-- Types stand in the order of first definitions; a second one adds nothing.
types_by_first : shown false false scalar_int (source "type A type B type A" (6 ∷ 0 ∷ 6 ∷ 5 ∷ 1 ∷ 6 ∷ 7 ∷ 6 ∷ 12 ∷ 1 ∷ 6 ∷ 14 ∷ 6 ∷ 19 ∷ 1 ∷ []) ∷ []) ≡
    shows (row 4 ∅ ∅ ∷ row 5 0 ∅ ∷ row 6 1 ∅ ∷ row 6 2 ∅ ∷ []) (error 4 3 1 ∷ []) []
unfolding unfolded
types_by_first = refl

-- Orphans go name by name, in the order of the first of each; adopted types come after defined ones.
abbrev orphans_a_b_a : Source
orphans_a_b_a =
    source "extend type A{a:Int}extend type B{b:Int}extend type A{c:Int}type C"
    (13 ∷ 0 ∷ 20 ∷ 12 ∷ 1 ∷ 22 ∷ 14 ∷ 5 ∷ 14 ∷ 1 ∷ 13 ∷ 20 ∷ 20 ∷ 32 ∷ 1 ∷ 22 ∷ 34 ∷ 5 ∷ 34 ∷ 1 ∷
    13 ∷ 40 ∷ 20 ∷ 52 ∷ 1 ∷ 22 ∷ 54 ∷ 5 ∷ 54 ∷ 1 ∷ 6 ∷ 60 ∷ 6 ∷ 65 ∷ 1 ∷ [])

orphans_by_name : shown false false scalar_int (orphans_a_b_a ∷ []) ≡
    shows (row 4 ∅ ∅ ∷ row 5 0 ∅ ∷ row 6 7 ∅ ∷ []) [] (error 7 1 ∅ ∷ error 7 5 ∅ ∷ error 7 3 ∅ ∷ [])
unfolding unfolded
orphans_by_name = refl

adopted_last : shown true false scalar_int (orphans_a_b_a ∷ []) ≡
    shows (row 4 ∅ ∅ ∷ row 5 0 ∅ ∷ row 6 7 ∅ ∷ row 6 1 1 ∷ row 22 2 1 ∷ row 22 6 5 ∷ row 6 3 3 ∷ row 22 4 3 ∷ []) [] []
unfolding unfolded
adopted_last = refl

-- ---- Lookups over a collection and exactly its rows. The second B's 21 and the second mutation are errors.

abbrev desk : Source
desk =
    source "interface I type A implements I{a:Int}type B implements I & I union U=A|B schema{query:A mutation:B}"
    (7 ∷ 0 ∷ 11 ∷ 10 ∷ 1 ∷ 6 ∷ 12 ∷ 26 ∷ 17 ∷ 1 ∷ 21 ∷ 30 ∷ 1 ∷ 30 ∷ 1 ∷ 22 ∷ 32 ∷ 5 ∷ 32 ∷ 1 ∷
    6 ∷ 38 ∷ 23 ∷ 43 ∷ 1 ∷ 21 ∷ 56 ∷ 1 ∷ 56 ∷ 1 ∷ 21 ∷ 60 ∷ 1 ∷ 60 ∷ 1 ∷ 8 ∷ 62 ∷ 11 ∷ 68 ∷ 1 ∷ 23 ∷ 70 ∷ 1 ∷ 70 ∷ 1 ∷ 23 ∷ 72 ∷ 1 ∷ 72 ∷ 1 ∷
    4 ∷ 74 ∷ 26 ∷ 0 ∷ 0 ∷ 26 ∷ 81 ∷ 7 ∷ 87 ∷ 1 ∷ 27 ∷ 89 ∷ 10 ∷ 98 ∷ 1 ∷ [])

abbrev more : Source
more =
    source "extend schema @a @a{mutation:B}"
    (11 ∷ 0 ∷ 31 ∷ 0 ∷ 0 ∷ 20 ∷ 14 ∷ 2 ∷ 15 ∷ 1 ∷ 20 ∷ 17 ∷ 2 ∷ 18 ∷ 1 ∷ 27 ∷ 20 ∷ 10 ∷ 29 ∷ 1 ∷ [])

abbrev school : Option Account
school = collected false false scalar_int (desk ∷ more ∷ [])

school_built : shown false false scalar_int (desk ∷ more ∷ []) ≡
    shows (row 4 11 ∅ ∷ row 20 15 14 ∷ row 20 16 14 ∷ row 26 12 ∅ ∷ row 27 13 ∅ ∷ row 5 0 ∅ ∷ row 7 1 ∅ ∷ row 6 2 ∅ ∷ row 21 3 ∅ ∷ row 22 4 ∅ ∷
    row 6 5 ∅ ∷ row 21 6 ∅ ∷ row 8 8 ∅ ∷ row 23 9 ∅ ∷ row 23 10 ∅ ∷ []) (error 10 7 6 ∷ error 9 17 13 ∷ []) []
unfolding unfolded
school_built = refl

rows_pass : asked school check_of ≡ some (answer 0 0)
unfolding unfolded
rows_pass = refl

-- A catalogue's rows are exactly its rows: one word more is no whole row.
refused_26 : asked school (λ a rows. check_of a (0 ∷ rows)) ≡ some (answer 26 0)
unfolding unfolded
refused_26 = refl

refused_7 : asked school (λ a rows. origins_of a rows []) ≡ some (unlisted [] 7)
unfolding unfolded
refused_7 = refl

query_root : asked school (λ a rows. root_of a rows Query) ≡ some (record { bytes = bytes "A"; part = span 97 1 })
unfolding unfolded
query_root = refl

no_subscription : asked school (λ a rows. root_of a rows Subscription) ≡ some no_root
unfolding unfolded
no_subscription = refl

field_explicit : asked school (λ a rows. field_of_type a rows (bytes "A") (bytes "a")) ≡ some (Found (Explicit 4))
unfolding unfolded
field_explicit = refl

field_typename : asked school (λ a rows. field_of_type a rows (bytes "U") (bytes "__typename")) ≡ some (Found Typename)
unfolding unfolded
field_typename = refl

field_schema : asked school (λ a rows. field_of_type a rows (bytes "A") (bytes "__schema")) ≡ some (Found Schema)
unfolding unfolded
field_schema = refl

field_missing : asked school (λ a rows. field_of_type a rows (bytes "I") (bytes "a")) ≡ some (NoSuchField 1)
unfolding unfolded
field_missing = refl

type_missing : asked school (λ a rows. field_of_type a rows (bytes "Z") (bytes "a")) ≡ some NoSuchType
unfolding unfolded
type_missing = refl

subtype_interface : asked school (λ a rows. subtype_answer a rows (bytes "I") (bytes "B")) ≡ some Subtype
unfolding unfolded
subtype_interface = refl

subtype_member : asked school (λ a rows. subtype_answer a rows (bytes "U") (bytes "A")) ≡ some Subtype
unfolding unfolded
subtype_member = refl

subtype_not_itself : asked school (λ a rows. subtype_answer a rows (bytes "I") (bytes "I")) ≡ some NotSubtype
unfolding unfolded
subtype_not_itself = refl

origins_listed : asked school (λ a rows. origins_of a rows (replicate origins_capacity 0)) ≡
    some (listed_in (replicate origins_capacity 0) 4 (14 ∷ 14 ∷ ∅ ∷ ∅ ∷ []))
unfolding unfolded
origins_listed = refl

extensions_listed : asked school (λ a rows. extensions_in a rows (replicate origins_capacity 0)) ≡ some (listed_in (replicate origins_capacity 0) 1 (14 ∷ []))
unfolding unfolded
extensions_listed = refl

-- One group: named by card 3, two objects, no interface, the type cards 2 and 5.
implementers_listed : asked school (λ a rows. implementers_of a rows (replicate groups_capacity 0)) ≡
    some (listed_in (replicate groups_capacity 0) 1 (3 ∷ 2 ∷ 0 ∷ 2 ∷ 5 ∷ []))
unfolding unfolded
implementers_listed = refl

-- An early extension's 21 has a lower number than its definition's, and a later row: the group that card 5 names, `I`, stands before that of card 2, `J`.
abbrev early : Source
early =
    source "extend type A implements J{a:Int} type A implements I{b:Int}"
    (13 ∷ 0 ∷ 33 ∷ 12 ∷ 1 ∷ 21 ∷ 25 ∷ 1 ∷ 25 ∷ 1 ∷ 22 ∷ 27 ∷ 5 ∷ 27 ∷ 1 ∷ 6 ∷ 34 ∷ 26 ∷ 39 ∷ 1 ∷ 21 ∷ 52 ∷ 1 ∷ 52 ∷ 1 ∷ 22 ∷ 54 ∷ 5 ∷ 54 ∷ 1 ∷ [])

implementers_in_row_order : asked (collected false false scalar_int (early ∷ [])) (λ a rows. implementers_of a rows (replicate groups_capacity 0)) ≡
    some (listed_in (replicate groups_capacity 0) 2 (5 ∷ 1 ∷ 0 ∷ 4 ∷ 2 ∷ 1 ∷ 0 ∷ 4 ∷ []))
unfolding unfolded
implementers_in_row_order = refl
