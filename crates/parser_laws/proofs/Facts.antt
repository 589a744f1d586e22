-- What the machine's tables must be: `sound n` is one test for each part of the grammar, which Sound.antt computes.
use mathlib.Core.List.{List, [], ◌∷◌}
use mathlib.Core.Bool.{Bool, true, false, ◌&&◌, ◌||◌, not}
use Prim.Native.Nat.{ℕ, zero, suc}
use lib.Dec.{leb, ltb}
use lib.ListN.{length}
use Rattle.definition.specs.Lists.{all}
use Rattle.definition.specs.Grammar.{Mark, heading, kind, heading_ends, item, item_ends, named, deeper, shallower, Symbol, one, part, mark, Part, rule}
use Rattle.definition.specs.GrammarSets.{nullable, first, follow, weight, rank, short}
use Rattle.definition.specs.Machine.{first_set_of, empties, weigh}
use Rattle.parser_laws.proofs.Tests.{subset, disjoint}

-- Whatever an alternative begins with, its part begins with; where it can be empty, so can its part; it weighs less.
unfoldable pub covered : Part → List Symbol → Bool
covered n r = subset (first_set_of r) (first n) && (not (empties r) || nullable n) && ltb (weigh r) (weight n)

-- Every range of sorts is one, and after each part of an alternative stands only what may follow it, where f may follow the alternative.
unfoldable pub followed : List (ℕ × ℕ) → List Symbol → Bool
followed f [] = true
followed f (one lo hi ∷ ss) = leb lo hi && followed f ss
followed f (mark m ∷ ss) = followed f ss
followed f (part n ∷ ss) = subset (first_set_of ss) (follow n) && (not (empties ss) || subset f (follow n)) && followed f ss

-- No two alternatives begin alike, and at most one can be empty.
unfoldable pub unlike : List (List Symbol) → Bool
unlike [] = true
unlike (r ∷ rs) = all (λ q. disjoint (first_set_of r) (first_set_of q)) rs && unlike rs

unfoldable pub lone : List (List Symbol) → Bool
lone [] = true
lone (r ∷ rs) = (not (empties r) || all (λ q. not (empties q)) rs) && lone rs

-- All parts of a list have a rank below k.
unfoldable pub lower : ℕ → List Symbol → Bool
lower k [] = true
lower k (one lo hi ∷ ss) = leb lo hi && lower k ss
lower k (mark m ∷ ss) = lower k ss
lower k (part n ∷ ss) = ltb (rank n) k && lower k ss

-- The alternative numbered i.
unfoldable pub numbered : ℕ → List (List Symbol) → List Symbol
numbered i [] = []
numbered zero (r ∷ rs) = r
numbered (suc i) (r ∷ rs) = numbered i rs

unfoldable pub sound : Part → Bool
sound n =
    all (covered n) (rule n) &&
    all (followed (follow n)) (rule n) &&
    unlike (rule n) &&
    lone (rule n) &&
    (not (nullable n) || disjoint (first n) (follow n)) &&
    ltb (short n) (length (rule n)) &&
    lower (rank n) (numbered (short n) (rule n))

-- Every token that the table asks for has a sort that some word has.
unfoldable pub spelled_all : List Symbol → Bool
spelled_all [] = true
spelled_all (one lo hi ∷ ss) = leb hi 54 && spelled_all ss
spelled_all (mark m ∷ ss) = spelled_all ss
spelled_all (part n ∷ ss) = spelled_all ss

-- A mark with which an item begins; symbols without one; and symbols with one at most at their head.
unfoldable pub is_start : Mark → Bool
is_start heading = true
is_start (kind k) = false
is_start heading_ends = false
is_start (item k) = true
is_start item_ends = false
is_start named = false
is_start deeper = false
is_start shallower = false

unfoldable pub clean : List Symbol → Bool
clean [] = true
clean (one lo hi ∷ ss) = clean ss
clean (mark m ∷ ss) = not (is_start m) && clean ss
clean (part n ∷ ss) = clean ss

unfoldable pub tidy : List Symbol → Bool
tidy [] = true
tidy (one lo hi ∷ ss) = clean ss
tidy (mark m ∷ ss) = clean ss
tidy (part n ∷ ss) = clean ss
