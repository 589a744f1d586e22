-- What the functions for C leave where an entry's answer has no C form of its own.
use Rattle.std.specs.Prelude.{List, [], ℕ, eqb, ltb, length}
use Rattle.definition.specs.declared.OperationType.TheVariants.{Query, Mutation, Subscription}
use Rattle.definition.specs.Lists.{choose, written}
use Rattle.definition.specs.Outcomes.{root_operation}

-- The name of the root of a kind, 26 query, 27 mutation, 28 subscription; of any other number none.
unfoldable pub root_named : List ℕ → List ℕ → List ℕ → ℕ → List ℕ
root_named text words rows kind =
    let query = (root_operation text words rows Query).bytes in
    let mutation = (root_operation text words rows Mutation).bytes in
    let subscription = (root_operation text words rows Subscription).bytes in
    choose (eqb kind 26) query (choose (eqb kind 27) mutation (choose (eqb kind 28) subscription []))

-- A name copied to the front of the lent bytes where it fits; else they stay.
unfoldable pub copied_name : List ℕ → List ℕ → List ℕ
copied_name lent name = choose (ltb (length lent) (length name)) lent (written lent 0 name)
