-- 01, "Drawn catalogues": P1 to P10 with each variant that 01 names, over the definitions, by computation. `∅` is 01's `-`; the two switches are
-- adopt and ignore, turned on after document 0.
use Rattle.std.specs.Prelude.{◌≡◌, refl, [], ◌∷◌, true, false}
use Rattle.definition.specs.Catalogue.{row}
use Rattle.definition.specs.Errors.{error}
use Rattle.definition.specs.Unfolded.{unfolded}
use Rattle.definition.specs.Shown.{∅, Source, source, shows, shown, scalar_int}

-- ---- The documents, with their cards.

abbrev twice : Source
twice =
    source "type A{n:Int n:Int}extend type A{m:Int}"
    (6 ∷ 0 ∷ 19 ∷ 5 ∷ 1 ∷ 22 ∷ 7 ∷ 5 ∷ 7 ∷ 1 ∷ 22 ∷ 13 ∷ 5 ∷ 13 ∷ 1 ∷ 13 ∷ 19 ∷ 20 ∷ 31 ∷ 1 ∷ 22 ∷ 33 ∷ 5 ∷ 33 ∷ 1 ∷ [])

abbrev orphan : Source
orphan = source "extend type B{m:Int}" (13 ∷ 0 ∷ 20 ∷ 12 ∷ 1 ∷ 22 ∷ 14 ∷ 5 ∷ 14 ∷ 1 ∷ [])

abbrev early : Source
early =
    source "extend union U=B type U{n:Int}"
    (15 ∷ 0 ∷ 16 ∷ 13 ∷ 1 ∷ 23 ∷ 15 ∷ 1 ∷ 15 ∷ 1 ∷ 6 ∷ 17 ∷ 13 ∷ 22 ∷ 1 ∷ 22 ∷ 24 ∷ 5 ∷ 24 ∷ 1 ∷ [])

abbrev late : Source
late =
    source "type U{n:Int}extend union U=B"
    (6 ∷ 0 ∷ 13 ∷ 5 ∷ 1 ∷ 22 ∷ 7 ∷ 5 ∷ 7 ∷ 1 ∷ 15 ∷ 13 ∷ 16 ∷ 26 ∷ 1 ∷ 23 ∷ 28 ∷ 1 ∷ 28 ∷ 1 ∷ [])

abbrev type_int : Source
type_int = source "type Int{n:Int}" (6 ∷ 0 ∷ 15 ∷ 5 ∷ 3 ∷ 22 ∷ 9 ∷ 5 ∷ 9 ∷ 1 ∷ [])

abbrev type_query : Source
type_query = source "type Query{n:Int}" (6 ∷ 0 ∷ 17 ∷ 5 ∷ 5 ∷ 22 ∷ 11 ∷ 5 ∷ 11 ∷ 1 ∷ [])

abbrev extend_schema : Source
extend_schema = source "extend schema{query:Q}" (11 ∷ 0 ∷ 22 ∷ 0 ∷ 0 ∷ 26 ∷ 14 ∷ 7 ∷ 20 ∷ 1 ∷ [])

abbrev directive_d : Source
directive_d = source "directive @d on FIELD" (3 ∷ 0 ∷ 21 ∷ 11 ∷ 1 ∷ [])

-- ---- The table.

p1 : shown false false scalar_int (twice ∷ []) ≡
    shows (row 4 ∅ ∅ ∷ row 5 0 ∅ ∷ row 6 1 ∅ ∷ row 22 2 ∅ ∷ row 22 5 4 ∷ []) (error 12 3 2 ∷ []) []
unfolding unfolded
p1 = refl

p2 : shown false false scalar_int [] ≡ shows (row 4 ∅ ∅ ∷ row 5 0 ∅ ∷ []) [] []
unfolding unfolded
p2 = refl

p3 : shown false false scalar_int (orphan ∷ []) ≡ shows (row 4 ∅ ∅ ∷ row 5 0 ∅ ∷ []) [] (error 7 1 ∅ ∷ [])
unfolding unfolded
p3 = refl

p3_adopting : shown true false scalar_int (orphan ∷ []) ≡ shows (row 4 ∅ ∅ ∷ row 5 0 ∅ ∷ row 6 1 1 ∷ row 22 2 1 ∷ []) [] []
unfolding unfolded
p3_adopting = refl

p4 : shown false false scalar_int (early ∷ []) ≡ shows (row 4 ∅ ∅ ∷ row 5 0 ∅ ∷ row 6 3 ∅ ∷ row 22 4 ∅ ∷ []) [] []
unfolding unfolded
p4 = refl

p5 : shown false false scalar_int (late ∷ []) ≡ shows (row 4 ∅ ∅ ∷ row 5 0 ∅ ∷ row 6 1 ∅ ∷ row 22 2 ∅ ∷ []) (error 8 3 1 ∷ []) []
unfolding unfolded
p5 = refl

p6 : shown false false scalar_int (scalar_int ∷ []) ≡ shows (row 4 ∅ ∅ ∷ row 5 0 ∅ ∷ []) (error 5 1 ∅ ∷ []) []
unfolding unfolded
p6 = refl

p6_ignored : shown false true scalar_int (scalar_int ∷ []) ≡ shows (row 4 ∅ ∅ ∷ row 5 0 ∅ ∷ []) [] []
unfolding unfolded
p6_ignored = refl

p7 : shown false false scalar_int (type_int ∷ []) ≡ shows (row 4 ∅ ∅ ∷ row 5 0 ∅ ∷ []) (error 4 1 0 ∷ []) []
unfolding unfolded
p7 = refl

p8 : shown false false scalar_int (type_query ∷ []) ≡
    shows (row 4 ∅ ∅ ∷ row 26 ∅ ∅ ∷ row 5 0 ∅ ∷ row 6 1 ∅ ∷ row 22 2 ∅ ∷ []) [] []
unfolding unfolded
p8 = refl

p9 : shown false false scalar_int (type_query ∷ extend_schema ∷ []) ≡
    shows (row 4 ∅ ∅ ∷ row 26 ∅ ∅ ∷ row 5 0 ∅ ∷ row 6 1 ∅ ∷ row 22 2 ∅ ∷ []) [] (error 9 4 ∅ ∷ [])
unfolding unfolded
p9 = refl

p9_adopting : shown true false scalar_int (type_query ∷ extend_schema ∷ []) ≡
    shows (row 4 ∅ ∅ ∷ row 26 4 3 ∷ row 5 0 ∅ ∷ row 6 1 ∅ ∷ row 22 2 ∅ ∷ []) [] []
unfolding unfolded
p9_adopting = refl

p10 : shown false false directive_d (directive_d ∷ directive_d ∷ []) ≡ shows (row 4 ∅ ∅ ∷ row 3 1 ∅ ∷ []) (error 3 2 1 ∷ []) []
unfolding unfolded
p10 = refl
