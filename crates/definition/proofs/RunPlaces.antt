-- Places of a run: the call at a place, its reply, and the store and the account before and after it; later accounts only add.
use mathlib.Core.Path.{◌≡◌, refl, sym, ◌∙◌, ap, subst}
use mathlib.Core.List.{List, [], ◌∷◌, ◌++◌, append_assoc, append-nil}
use mathlib.Core.Bool.{Bool, true, false}
use mathlib.Core.Option.{Option, none, some}
use Prim.Native.Nat.{ℕ, zero, suc, ◌<◌}
use native.Mathlib.Omega.{arith}
use lib.Dec.{leb}
use lib.ListN.{take, get_elem?}
use borrow.Author.Tests.{leb-true, leb-false}
use Rattle.definition.specs.declared.Answer.{Answer}
use Rattle.definition.specs.Lists.{Prefix}
use Rattle.definition.specs.Answers.{answer}
use Rattle.definition.specs.Account.{Account}
use Rattle.definition.specs.Refusals.{document, opening_refusal, filing_refusal}
use Rattle.definition.specs.Calls.{Call, opening, filing, adopting, ignoring, building, checking, root_asked, field_asked, subtype_asked, origins_asked}
use Rattle.definition.specs.Calls.{extensions_asked, implementers_asked, parsing, answered, opened_account, joined, adopting_from, ignoring_from, or_refused}
use Rattle.definition.specs.Calls.{step}
use Rattle.definition.specs.Calls.{account_after, Store, step_store, run_store}
use Rattle.definition.specs.Runs.{store_after, OpenedAt, NoneOpenedBetween}
use Rattle.definition.proofs.StoreAgrees.{HoldsIn, kept, holds_after}

-- ---- The call at place k.

pub reply_at : (s : Store) (calls : List Call) (k : ℕ) (c : Call) → get_elem? calls k ≡ some c →
    get_elem? (run_store s calls) k ≡ some (step_store (store_after s (take k calls)) c).1
unfolding run_store store_after
reply_at s [] k c e = absurd cc
reply_at s (x ∷ cs) zero c e = let q : x ≡ c = cc in ap (λ y. some (step_store s y).1) q
reply_at s (x ∷ cs) (suc k) c e = reply_at (step_store s x).0 cs k c e

pub account_next : (a : Account) (calls : List Call) (k : ℕ) (c : Call) → get_elem? calls k ≡ some c →
    account_after a (take (suc k) calls) ≡ (step (account_after a (take k calls)) c).0
unfolding account_after
account_next a [] k c e = absurd cc
account_next a (x ∷ cs) zero c e = let q : x ≡ c = cc in ap (λ y. (step a y).0) q
account_next a (x ∷ cs) (suc k) c e = account_next (step a x).0 cs k c e

past_end : (calls : List Call) (k : ℕ) → get_elem? calls k ≡ none → take (suc k) calls ≡ take k calls
past_end [] zero e = refl
past_end [] (suc k) e = refl
past_end (x ∷ cs) zero e = absurd cc
past_end (x ∷ cs) (suc k) e = ap (λ l. x ∷ l) (past_end cs k e)

-- ---- A later account: more documents at the end, and switches as they may be.

abbrev pub Later : Account → Account → Type 0
Later a b = Prefix a.documents b.documents

pub later_same : (a : Account) → Later a a
later_same a = ([], sym (append-nil a.documents))

later_then : (a b c : Account) → Later a b → Later b c → Later a c
later_then a b c l m = (l.0 ++ m.0, m.1 ∙ (ap (λ x. x ++ m.0) l.1 ∙ append_assoc a.documents l.0 m.0))

refused_or : (a b : Account) (o : Option Answer) → (o ≡ none → Later a b) → Later a (or_refused a o b).0
unfolding or_refused
refused_or a b none f = f refl
refused_or a b (some r) f = later_same a

-- A call that takes no document away: any but an accepted opening.
abbrev Adds : Call → Type 0
Adds c = (text cards : List ℕ) → c ≡ opening text cards → opening_refusal text cards ≡ none → ⊥

pub step_later : (a : Account) (c : Call) → Adds c → Later a (step a c).0
unfolding step joined adopting_from ignoring_from
step_later a (opening text ws) n = refused_or a (opened_account text ws) (opening_refusal text ws) (λ e. absurd (n text ws refl e))
step_later a (filing text ws) n = refused_or a (joined a text ws) (filing_refusal a text ws) (λ e. (document a.ignore text ws ∷ [], refl))
step_later a adopting n = refused_or a (adopting_from a) none (λ e. later_same a)
step_later a ignoring n = refused_or a (ignoring_from a) none (λ e. later_same a)
step_later a (building rows errors) n = later_same a
step_later a (checking rows) n = later_same a
step_later a (root_asked rows op) n = later_same a
step_later a (field_asked rows type field) n = later_same a
step_later a (subtype_asked rows general other) n = later_same a
step_later a (origins_asked rows lent) n = later_same a
step_later a (extensions_asked rows lent) n = later_same a
step_later a (implementers_asked rows lent) n = later_same a
step_later a (parsing text lent) n = later_same a

-- ---- Between two places of a run of a store s that holds the account a.

module _ (s : Store) (a : Account) (h : HoldsIn s a) (calls : List Call) where
  holds_at_lem : (k : ℕ) → HoldsIn (store_after s (take k calls)) (account_after a (take k calls))
  holds_at_lem k = holds_after (take k calls) s a h

  accepted_reply : (b : Account) (text ws : List ℕ) → opening_refusal text ws ≡ none → (step b (opening text ws)).1 ≡ answered (answer 0 0)
  unfolding step or_refused
  accepted_reply b text ws e = rw e

  next_later : (k : ℕ) → (OpenedAt s calls k → ⊥) → Later (account_after a (take k calls)) (account_after a (take (suc k) calls))
  next_later k n = go (get_elem? calls k) refl
    where
      go : (o : Option Call) → get_elem? calls k ≡ o → Later (account_after a (take k calls)) (account_after a (take (suc k) calls))
      go none e = subst (λ l. Later (account_after a (take k calls)) (account_after a l)) (sym (past_end calls k e)) (later_same (account_after a (take k calls)))
      go (some c) e =
          subst (Later (account_after a (take k calls))) (sym (account_next a calls k c e))
          (step_later (account_after a (take k calls)) c (λ text ws q r. n (record {
            text = text;
            cards = ws;
            call = e ∙ ap some q;
            reply =
                reply_at s calls k c e
                ∙ ap some ((kept (store_after s (take k calls)) (account_after a (take k calls)) (holds_at_lem k) c).reply
                ∙ ap (λ y. (step (account_after a (take k calls)) y).1) q
                ∙ accepted_reply (account_after a (take k calls)) text ws r);
          })))

  pub later_between : (i j : ℕ) → i < j → NoneOpenedBetween s calls i j → Later (account_after a (take (suc i) calls)) (account_after a (take j calls))
  later_between i zero l n = absurd (omega arith)
  later_between i (suc j) l n = go (leb (suc i) j) refl (later_between i j)
    where
      go : (b : Bool) → leb (suc i) j ≡ b → (i < j → NoneOpenedBetween s calls i j →
          Later (account_after a (take (suc i) calls)) (account_after a (take j calls))) →
          Later (account_after a (take (suc i) calls)) (account_after a (take (suc j) calls))
      go true e ih =
          let m : i < j = omega (arith, leb-true (suc i) j e) in
          later_then (account_after a (take (suc i) calls)) (account_after a (take j calls)) (account_after a (take (suc j) calls))
          (ih m (λ k u v. n k u (omega arith))) (next_later j (n j m (omega arith)))
      go false e ih =
          let q : i ≡ j = omega (arith, leb-false (suc i) j e, l) in
          subst (λ k. Later (account_after a (take (suc i) calls)) (account_after a (take (suc k) calls))) q (later_same (account_after a (take (suc i) calls)))
