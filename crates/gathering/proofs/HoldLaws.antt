-- What is kept of a text is kept of it with a part behind it.
use mathlib.Core.Path.{◌≡◌, refl, sym, ap, ◌∙◌}
use mathlib.Core.Bool.{Bool}
use mathlib.Core.List.{List, [], ◌∷◌, ◌++◌, append_assoc, append-nil}
use Prim.Native.Nat.{ℕ, ◌+◌, min}
use native.Mathlib.Omega.{arith}
use lib.ListN.{length, length-append}
use borrow.Author.Tests.{ne_eqb}
use Rattle.columns.specs.Texts.{how_many}
use Rattle.basics.specs.Fields.{joined}
use Rattle.semicolons.specs.Lines.{is_semicolon, is_feed, last_byte}
use Rattle.semicolons.proofs.LineLaws.{last_append}
use Rattle.semicolons.proofs.CountLaws.{how_many_append}
use Rattle.gathering.specs.Gathering.{room, kept_of, Holds, last_after, kept_with, holding, kept_through, held_through}
use Rattle.gathering.specs.Promises.{Begun, GoneOn}
use Rattle.gathering.specs.declared.Gathered.{Gathered}
use Rattle.gathering.proofs.PartLaws.{held_on, holding-length}

-- Bytes are counted part by part, up to a limit as well.
counted-on : (test : ℕ → Bool) (most : ℕ) (t p : List ℕ) → min most (min most (how_many test t) + how_many test p) ≡ min most (how_many test (t ++ p))
counted-on test most t p = omega (arith, how_many_append test t p)

-- A sum up to a limit, with a count that is known.
pub counted_with : (most n m k : ℕ) {r : ℕ} → r ≡ min most (n + m) → m ≡ k → r ≡ min most (n + k)
counted_with most n m k e f = e ∙ ap (λ (x : ℕ). min most (n + x)) f

-- The last byte is the part's, or the text's where the part has none.
last_on : (t p : List ℕ) → last_after (last_byte t) p ≡ last_byte (t ++ p)
unfolding last_after
last_on t [] = ap last_byte (sym (append-nil t))
last_on t (c ∷ p) = rw (ne_eqb (length (c ∷ p)) 0 (λ e. omega (arith, e))) (sym (last_append t (c ∷ p) (omega arith)))

-- Any buffer of 250 bytes holds the empty text.
pub holds_nothing : (buffer : List ℕ) (answer : Gathered) → length buffer ≡ room → Begun answer → Holds buffer answer []
holds_nothing buffer answer n h = (n, refl, h)

-- What is kept of a text and a part is kept of both.
kept_on : (b t p : List ℕ) → length b ≡ room → kept_with b (kept_of t) p ≡ kept_of (t ++ p)
kept_on b t p n =
    let held : min (length b) (min room (length t) + length p) ≡ min room (length (t ++ p)) = omega (arith, n, length-append t p) in
    λ k. record {
      held = held k;
      semicolons = counted-on is_semicolon 30 t p k;
      feeds = counted-on is_feed 2 t p k;
      last = last_on t p k;
    }

-- A buffer that holds a text holds it with a part behind it once the part is gathered,
pub holds_on : (before after : List ℕ) (g answer : Gathered) (t p : List ℕ) → Holds before g t → GoneOn before g p answer after → Holds after answer (t ++ p)
holds_on before after g answer t p h s =
    let size : length (holding before g.held p) ≡ room = holding-length before p g.held ∙ h.0 in
    let held : g.held ≡ min (length before) (length t) = rw h.0 (ap (λ (x : Gathered). x.held) h.2) in
    let first = held_on before t p (h.1 ∙ rw h.0) g.held held in (
      rw s.1 size,
      rw (s.1, first, h.0),
      s.0 ∙ ap (λ (x : Gathered). kept_with before x p) h.2 ∙ kept_on before t p h.0,
    )

-- and so with all parts of a line.
holds_more : (ps : List (List ℕ)) (buffer : List ℕ) (g : Gathered) (t : List ℕ) → Holds buffer g t → Holds (held_through ps buffer g) (kept_through ps buffer g) (t ++ joined ps)
holds_more [] buffer g t h = rw (append-nil t) h
holds_more (p ∷ ps) buffer g t h =
    let next = holds_on buffer (holding buffer g.held p) g (kept_with buffer g p) t p h (refl, refl) in
    rw (← append_assoc t p (joined ps)) (holds_more ps (holding buffer g.held p) (kept_with buffer g p) (t ++ p) next)

pub holds_all : (ps : List (List ℕ)) (buffer : List ℕ) → length buffer ≡ room → Holds (held_through ps buffer (kept_of [])) (kept_through ps buffer (kept_of [])) (joined ps)
holds_all ps buffer n = holds_more ps buffer (kept_of []) [] (holds_nothing buffer (kept_of []) n refl)
