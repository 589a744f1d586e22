-- The function that reads tokens goes the machine's way, whatever it is given: its steps between two tokens are few enough.
use mathlib.Core.Path.{◌≡◌, refl}
use mathlib.Core.List.{List, [], ◌∷◌, ◌++◌}
use mathlib.Core.Bool.{Bool, true, false}
use mathlib.Core.Option.{Option, none, some}
use Prim.Native.Nat.{ℕ, zero, suc, ◌+◌, ◌≤◌, ◌<◌}
use native.Mathlib.Omega.{arith}
use borrow.Author.Tests.{ltb-true}
use Rattle.definition.specs.Lists.{choose, found, Among}
use Rattle.definition.specs.Grammar.{Mark, Symbol, one, part, mark, Part, rule, within}
use Rattle.definition.specs.GrammarSets.{nullable, weight, short}
use Rattle.definition.specs.Derivation.{Token, Seen, token}
use Rattle.definition.specs.Machine.{empties, weigh, pick, ahead, Ending, whole, stops, Walks, finish, surplus, shift, wrong, missing, note, expand, stuck}
use Rattle.definition.specs.Machine.{Settled, at_end, at_token, nowhere, noted, settle, after, lastly, passing, onward, walk}
use Rattle.parser_laws.proofs.Theory.{facts, lighter, empty_so, picked}
use Rattle.parser_laws.proofs.Viability.{numbered_among}

weigh_append : (r ss : List Symbol) → weigh (r ++ ss) ≤ weigh r + choose (empties r) (weigh ss) 0
unfolding weigh empties
weigh_append [] ss = omega arith
weigh_append (one lo hi ∷ r) ss = omega arith
weigh_append (mark m ∷ r) ss = let i = weigh_append r ss in omega arith
weigh_append (part n ∷ r) ss = go (nullable n) (weigh_append r ss)
  where
    go : (b : Bool) → weigh (r ++ ss) ≤ weigh r + choose (empties r) (weigh ss) 0 →
        weight n + choose b (weigh (r ++ ss)) 0 ≤ weight n + choose b (weigh r) 0 + choose (choose b (empties r) false) (weigh ss) 0
    go true i = omega arith
    go false i = omega arith

fewer : (n : Part) {r : List Symbol} (ss : List Symbol) → Among r (rule n) → weigh (r ++ ss) < weigh (part n ∷ ss)
unfolding weigh
fewer n {r} ss a = go (empties r) refl (weigh_append r ss)
  where
    l : weigh r < weight n
    l = lighter n a

    go : (b : Bool) → empties r ≡ b → weigh (r ++ ss) ≤ weigh r + choose b (weigh ss) 0 → weigh (r ++ ss) < weight n + choose (nullable n) (weigh ss) 0
    go true e i = rw (empty_so n a e) (omega (arith, l))
    go false e i = omega (arith, l)

-- What it means that the steps before a token lead somewhere.
abbrev Leads : List Token → List Symbol → Settled → Type 0
Leads ts ss (at_end ms) = (es : List Seen) (e : Ending) → Walks ts [] es e → Walks ts ss (after ms es) e
Leads ts ss (at_token ms lo hi us) = (es : List Seen) (e : Ending) → Walks ts (one lo hi ∷ us) es e → Walks ts ss (after ms es) e
Leads ts ss (nowhere ms) = Walks ts ss (after ms []) (stops ts)

leads_mark : (m : Mark) (ts : List Token) (ss : List Symbol) (s : Settled) → Leads ts ss s → Leads ts (mark m ∷ ss) (noted m s)
unfolding after
leads_mark m ts ss (at_end ms) h = λ es e w. note (h es e w)
leads_mark m ts ss (at_token ms lo hi us) h = λ es e w. note (h es e w)
leads_mark m ts ss (nowhere ms) h = note h

leads_part : (n : Part) (r : List Symbol) (ts : List Token) (ss : List Symbol) (s : Settled) → pick (ahead ts) n ≡ some r → Leads ts (r ++ ss) s →
    Leads ts (part n ∷ ss) s
leads_part n r ts ss (at_end ms) i h = λ es e w. expand i (h es e w)
leads_part n r ts ss (at_token ms lo hi us) i h = λ es e w. expand i (h es e w)
leads_part n r ts ss (nowhere ms) i h = expand i h

weighs : (n : Part) → 0 < weight n
weighs n = let l = lighter n (numbered_among (short n) (rule n) (ltb-true _ _ (facts n).there_is)) in omega arith

leads : (k : ℕ) (ts : List Token) (ss : List Symbol) → weigh ss ≤ k → Leads ts ss (settle k (ahead ts) ss)
unfolding settle weigh after
leads zero ts [] h = λ es e w. w
leads zero ts (one lo hi ∷ ss) h = λ es e w. w
leads zero ts (mark m ∷ ss) h = absurd (omega arith)
leads zero ts (part n ∷ ss) h = let l = weighs n in absurd (omega arith)
leads (suc k) ts [] h = λ es e w. w
leads (suc k) ts (one lo hi ∷ ss) h = λ es e w. w
leads (suc k) ts (mark m ∷ ss) h = leads_mark m ts ss (settle k (ahead ts) ss) (leads k ts ss (omega arith))
leads (suc k) ts (part n ∷ ss) h = go (pick (ahead ts) n) refl (leads k ts)
  where
    go : (p : Option (List Symbol)) → pick (ahead ts) n ≡ p → ((us : List Symbol) → weigh us ≤ k → Leads ts us (settle k (ahead ts) us)) →
        Leads ts (part n ∷ ss) (found p (λ r. settle k (ahead ts) (r ++ ss)) (nowhere []))
    go none i f = stuck i
    go (some r) i f =
        let l = fewer n ss (picked (ahead ts) n r i) in
        leads_part n r ts ss (settle k (ahead ts) (r ++ ss)) i (f (r ++ ss) (omega arith))

pub walks : (ts : List Token) (ss : List Symbol) → Walks ts ss (walk ts ss).seen (walk ts ss).ending
unfolding walk
walks [] ss = go (settle (weigh ss) none ss) (leads (weigh ss) [] ss (omega arith))
  where
    go : (s : Settled) → Leads [] ss s → Walks [] ss (lastly s).seen (lastly s).ending
    go (at_end ms) h = h [] whole finish
    go (at_token ms lo hi us) h = h [] (stops []) missing
    go (nowhere ms) h = h
walks (t ∷ ts) ss = go (settle (weigh ss) (some t.sort) ss) (leads (weigh ss) (t ∷ ts) ss (omega arith)) (walks ts)
  where
    go : (s : Settled) → Leads (t ∷ ts) ss s → ((us : List Symbol) → Walks ts us (walk ts us).seen (walk ts us).ending) →
        Walks (t ∷ ts) ss (onward t ts (walk ts) s).seen (onward t ts (walk ts) s).ending
    go (at_end ms) h f = h [] (stops (t ∷ ts)) surplus
    go (at_token ms lo hi us) h f = at_token_lem (within lo hi t.sort) refl
      where
        at_token_lem : (b : Bool) → within lo hi t.sort ≡ b → Walks (t ∷ ts) ss
            (choose b (passing ms t (walk ts us)) (record { seen = after ms []; ending = stops (t ∷ ts) })).seen
            (choose b (passing ms t (walk ts us)) (record { seen = after ms []; ending = stops (t ∷ ts) })).ending
        at_token_lem true i = h (token t ∷ (walk ts us).seen) (walk ts us).ending (shift i (f us))
        at_token_lem false i = h [] (stops (t ∷ ts)) (wrong i)
    go (nowhere ms) h f = h
