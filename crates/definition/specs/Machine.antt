-- How a reading goes: a list of symbols that are still to come, and one token of foresight. Nothing here need be believed: parser_laws proves that
-- it comes by just the texts of the grammar, and stops at the first token that no text of the grammar has there.
use Rattle.std.specs.Prelude.{◌≡◌, List, [], ◌∷◌, ◌++◌, Bool, true, false, ℕ, zero, suc, ◌+◌}
use Rattle.std.proofs.Math.Option.{Option, none, some}
use Rattle.definition.specs.Lists.{choose, found}
use Rattle.definition.specs.Grammar.{Mark, Symbol, one, part, mark, Part, rule, within}
use Rattle.definition.specs.GrammarSets.{nullable, first, weight}
use Rattle.definition.specs.Derivation.{Token, Seen, token, marked}

-- Whether a sort lies in one of the ranges.
unfoldable pub has : List (ℕ × ℕ) → ℕ → Bool
has [] s = false
has (p ∷ ps) s = let r = has ps s in choose (within p.0 p.1 s) true r

-- The sorts that a list of symbols can begin with, and whether it can come by no token.
unfoldable pub first_set_of : List Symbol → List (ℕ × ℕ)
first_set_of [] = []
first_set_of (one lo hi ∷ ss) = (lo, hi) ∷ []
first_set_of (mark m ∷ ss) = first_set_of ss
first_set_of (part n ∷ ss) = let r = first_set_of ss in first n ++ choose (nullable n) r []

unfoldable pub empties : List Symbol → Bool
empties [] = true
empties (one lo hi ∷ ss) = false
empties (mark m ∷ ss) = empties ss
empties (part n ∷ ss) = let r = empties ss in choose (nullable n) r false

-- The alternative that begins with a sort, and the one that can be empty.
unfoldable pub beginning : ℕ → List (List Symbol) → Option (List Symbol)
beginning s [] = none
beginning s (r ∷ rs) = let q = beginning s rs in choose (has (first_set_of r) s) (some r) q

unfoldable pub emptied : List (List Symbol) → Option (List Symbol)
emptied [] = none
emptied (r ∷ rs) = let q = emptied rs in choose (empties r) (some r) q

-- The alternative of a part that the next token picks; at the end of the text there is none.
unfoldable pub pick : Option ℕ → Part → Option (List Symbol)
pick none n = emptied (rule n)
pick (some s) n = let e = emptied (rule n) in found (beginning s (rule n)) (λ r. some r) e

abbrev pub ahead : List Token → Option ℕ
ahead [] = none
ahead (t ∷ ts) = some t.sort

-- How a reading ends: with all read, or before tokens of which the first is not wanted (none left: the end is not wanted).
pub data Ending : Type 0 where
  whole : Ending
  stops : List Token → Ending

-- A reading of tokens by a list of symbols: what it comes by, and how it ends.
pub data Walks : List Token → List Symbol → List Seen → Ending → Type 0 where
  finish : Walks [] [] [] whole
  surplus : {t : Token} {ts : List Token} → Walks (t ∷ ts) [] [] (stops (t ∷ ts))
  shift :
      {lo hi : ℕ} {t : Token} {ts : List Token} {ss : List Symbol} {es : List Seen} {e : Ending} → within lo hi t.sort ≡ true → Walks ts ss es e →
      Walks (t ∷ ts) (one lo hi ∷ ss) (token t ∷ es) e
  wrong : {lo hi : ℕ} {t : Token} {ts : List Token} {ss : List Symbol} → within lo hi t.sort ≡ false → Walks (t ∷ ts) (one lo hi ∷ ss) [] (stops (t ∷ ts))
  missing : {lo hi : ℕ} {ss : List Symbol} → Walks [] (one lo hi ∷ ss) [] (stops [])
  note : {m : Mark} {ts : List Token} {ss : List Symbol} {es : List Seen} {e : Ending} → Walks ts ss es e → Walks ts (mark m ∷ ss) (marked m ∷ es) e
  expand :
      {n : Part} {r : List Symbol} {ts : List Token} {ss : List Symbol} {es : List Seen} {e : Ending} → pick (ahead ts) n ≡ some r →
      Walks ts (r ++ ss) es e → Walks ts (part n ∷ ss) es e
  stuck : {n : Part} {ts : List Token} {ss : List Symbol} → pick (ahead ts) n ≡ none → Walks ts (part n ∷ ss) [] (stops ts)

-- More than the steps that symbols take before the next token.
unfoldable pub weigh : List Symbol → ℕ
weigh [] = 0
weigh (one lo hi ∷ ss) = 0
weigh (mark m ∷ ss) = 1 + weigh ss
weigh (part n ∷ ss) = let r = weigh ss in weight n + choose (nullable n) r 0

-- Where the steps before the next token lead, with the marks on the way: to the end of the symbols, to a token that is wanted, or nowhere.
pub data Settled : Type 0 where
  at_end : List Mark → Settled
  at_token : List Mark → ℕ → ℕ → List Symbol → Settled
  nowhere : List Mark → Settled

abbrev pub noted : Mark → Settled → Settled
noted m (at_end ms) = at_end (m ∷ ms)
noted m (at_token ms lo hi ss) = at_token (m ∷ ms) lo hi ss
noted m (nowhere ms) = nowhere (m ∷ ms)

-- By the token ahead, in at most so many steps.
unfoldable pub settle : ℕ → Option ℕ → List Symbol → Settled
settle zero o [] = at_end []
settle zero o (one lo hi ∷ ss) = at_token [] lo hi ss
settle zero o (mark m ∷ ss) = nowhere []
settle zero o (part n ∷ ss) = nowhere []
settle (suc k) o [] = at_end []
settle (suc k) o (one lo hi ∷ ss) = at_token [] lo hi ss
settle (suc k) o (mark m ∷ ss) = noted m (settle k o ss)
settle (suc k) o (part n ∷ ss) = found (pick o n) (λ r. settle k o (r ++ ss)) (nowhere [])

-- The reading of tokens: what it comes by, and how it ends.
pub record Walked : Type 0 where
  pub seen : List Seen
  pub ending : Ending

unfoldable pub after : List Mark → List Seen → List Seen
after [] es = es
after (m ∷ ms) es = marked m ∷ after ms es

-- At the end of the text, and at a token, where f reads the tokens after it.
abbrev pub lastly : Settled → Walked
lastly (at_end ms) = record { seen = after ms []; ending = whole }
lastly (at_token ms lo hi us) = record { seen = after ms []; ending = stops [] }
lastly (nowhere ms) = record { seen = after ms []; ending = stops [] }

abbrev pub passing : List Mark → Token → Walked → Walked
passing ms t w = record { seen = after ms (token t ∷ w.seen); ending = w.ending }

abbrev pub onward : Token → List Token → (List Symbol → Walked) → Settled → Walked
onward t ts f (at_end ms) = record { seen = after ms []; ending = stops (t ∷ ts) }
onward t ts f (at_token ms lo hi us) =
    let go = passing ms t (f us) in
    choose (within lo hi t.sort) go (record { seen = after ms []; ending = stops (t ∷ ts) })
onward t ts f (nowhere ms) = record { seen = after ms []; ending = stops (t ∷ ts) }

unfoldable pub walk : List Token → List Symbol → Walked
walk [] ss = lastly (settle (weigh ss) none ss)
walk (t ∷ ts) ss = onward t ts (walk ts) (settle (weigh ss) (some t.sort) ss)
