use mathlib.Core.Path.{◌≡◌, sym, ap₂, ◌∙◌}
use mathlib.Core.Bool.{false}
use Rattle.std.proofs.Common.{⊎_elim}
use lib.ListN.{length, drop}
use Rattle.definition.specs.Names.{same_name}
use Rattle.from_ast_index.specs.Index.{same_cards}
use Rattle.from_ast_index.proofs.Search.{hash_at}
use Rattle.from_ast_indexing.proofs.EntrySearch.{rest_taken, hashes_of_rest, rest_has, first_hit, first_miss, first_differs, others_beside, none_left, none_beside}
use Rattle.from_ast_indexing.proofs.entry.KnownCards.find_from.Goals as goal
use Rattle.from_ast_indexing.proofs.entry.KnownCards.find_from.Goals.{else-other_hash-hash-via-then-other_hash-hash+else-same, else-other_hash-hash-via-else-other_hash-hash}

pub loop-other-init : goal.loop-other-init
loop-other-init c =
    let t = c.args.collection.now in
    let k = c.args.self.now in
    let cards_left : c.into_iter-other-iterator.result.a.rest.now ≡ drop c.args.from k.cards.now =
    rw (c.into_iter-other-iterator.ensures.into_iter_gives, c.zip-other-items.ensures.first) (c.iter.ensures.rest ∙ rest_taken c.args.from k.cards.now) in
    let hashes_left : c.into_iter-other-iterator.result.b.rest.now ≡ drop c.args.from k.hashes.now =
    rw c.into_iter-other-iterator.ensures.into_iter_gives (c.zip-other-items.ensures.second.0 ∙ rest_taken c.args.from k.hashes.now) in
    record {
      left = rw cards_left (rest_has t.text.now t.words.now k c.requires.known c.args.from c.requires.most c.args.card _
          (hash_at _ _ _ t.hashed c.args.card c.requires.stored) c.requires.passed);
      beside = rw (cards_left, hashes_left) (hashes_of_rest t.text.now t.words.now k c.requires.known c.args.from c.requires.most);
    }

pub returns-then-same : goal.returns-then-same
unfolding same_cards
returns-then-same c =
    let t = c.args.collection.now in
    let same = sym (ap₂ same_name c.name.ensures c.name-then-other_hash-hash.ensures) ∙ sym c.same.ensures ∙ c.if-same.true in
    sym (c.loop-other.invariant.left ∙ first_hit t.text.now t.words.now c.args.card _ _ _ c.in-Some.ensures.steps.0 same)

pub loop-other-preserved : goal.loop-other-preserved
unfolding same_cards
loop-other-preserved c =
    let t = c.args.collection.now in
    let steps = c.in-Some.ensures.steps in
    let beside = c.loop-other.invariant.beside in
    let other : same_cards t.text.now t.words.now c.args.card c.in-Some.other.now ≡ false =
    elim c.else-other_hash-hash.branch [
      | else-other_hash-hash-via-then-other_hash-hash+else-same w ↦
          sym (ap₂ same_name w.name.ensures w.name-then-other_hash-hash.ensures) ∙ sym w.same.ensures ∙ w.if-same.false
      | else-other_hash-hash-via-else-other_hash-hash w ↦
          first_differs t.text.now t.words.now c.args.card _ _ _ steps.0 _ _ _ beside steps.1 _ (hash_at _ _ _ t.hashed c.args.card c.requires.stored)
          w.if-other_hash-hash.false
    ] in
    record {
      left = c.loop-other.invariant.left ∙ first_miss t.text.now t.words.now c.args.card _ _ _ steps.0 other;
      beside = others_beside t.text.now t.words.now c.args.card _ _ _ steps.0 _ _ _ beside steps.1;
    }

pub returns : goal.returns
returns c =
    let t = c.args.collection.now in
    let none : length c.loop-other.other-iterator.a.rest.now ≡ 0 =
    ⊎_elim (λ w. w.1.0) (λ w. none_beside t.text.now t.words.now _ _ c.loop-other.invariant.beside w.1.0) c.in-None.ensures.steps in
    sym (c.loop-other.invariant.left ∙ none_left t.text.now t.words.now c.args.card _ none)
