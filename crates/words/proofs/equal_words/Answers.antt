-- `words::equal_words` meets its contract: the last eight bytes, then the first eight.
use mathlib.Core.Path.{◌≡◌, sym, ◌∙◌}
use mathlib.Core.List.{List}
use Prim.Native.Nat.{ℕ, ◌-◌}
use native.Mathlib.Omega.{arith}
use lib.ListN.{length}
use Rattle.words.specs.Words.{word_at}
use Rattle.words.proofs.WordLaws.{other_number, same_words}
use Rattle.words.proofs.equal_words.Goals as goal

pub returns-then-word : goal.returns-then-word
returns-then-word c =
    let a = c.args.a.now in
    other_number (λ (s : List ℕ). word_at s (length a - 8)) _ _ (λ e. c.if-word.true (c.word.ensures ∙ e ∙ sym c.word-2.ensures))

pub returns : goal.returns
returns c =
    let a = c.args.a.now in
    let b = c.args.b.now in
    let tails : word_at a (length a - 8) ≡ word_at b (length a - 8) = cc in
    same_words a b c.requires.a_len c.requires.in_bounds.1
    (λ i. omega (arith, c.shared_slice_known-1.given i))
    (λ i. omega (arith, c.shared_slice_known-2-1.given i))
    c.requires.in_bounds.0 c.word-3.result c.word-4.result c.word-3.ensures c.word-4.ensures tails
