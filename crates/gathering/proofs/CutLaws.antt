-- Texts that come in one after the other, each cut at its line feeds, give the lines of all of them.
use mathlib.Core.Path.{◌≡◌, refl, sym, ap, ◌∙◌}
use mathlib.Core.Bool.{Bool, true, false, cond, false≢true}
use mathlib.Core.List.{List, [], ◌∷◌, ◌++◌, append_assoc, append-nil}
use Prim.Native.Nat.{ℕ, ◌+◌, ◌-◌, ◌≤◌, ◌<◌}
use native.Mathlib.Omega.{arith}
use lib.ListN.{length, take, drop, length-take, length-drop}
use lib.Seq.{length-take-le, take-length, take_all, take-add, take_at, drop_at}
use lib.Dec.{eqb, ltb}
use borrow.Author.Tests.{eq-eqb, ne_eqb, ltb-false}
use Rattle.std.specs.List.{position, position_or_len}
use Rattle.std.specs.Option.{unwrap_or}
use Rattle.semicolons.specs.Lines.{is_feed, last_byte, lines_from}
use Rattle.semicolons.proofs.LineLaws.{last_cons, last_append}
use Rattle.gathering.specs.Cutting.{first_line, later_lines, open_line, after_part}
use Rattle.gathering.specs.Gathering.{Holds, Follows}
use Rattle.gathering.specs.Promises.{Begun, GoneOn}
use Rattle.gathering.specs.declared.Gathered.{Gathered}
use Rattle.gathering.proofs.HoldLaws.{holds_nothing, holds_on}

-- ---- where a line ends

-- The first line and what stands behind it are the text,
pub first_and_later : (t : List ℕ) → first_line t ++ later_lines t ≡ t
unfolding first_line later_lines
first_and_later [] = refl
first_and_later (c ∷ t) = by (is_feed c) refl (first_and_later t) where
  by : (b : Bool) → is_feed c ≡ b → first_line t ++ later_lines t ≡ t → first_line (c ∷ t) ++ later_lines (c ∷ t) ≡ c ∷ t
  by true e h = rw e
  by false e h = rw e (ap (λ (l : List ℕ). c ∷ l) h)

-- so that they are cut where it ends.
pub cut_here : (t : List ℕ) → (take (length (first_line t)) t ≡ first_line t) × (drop (length (first_line t)) t ≡ later_lines t)
cut_here t =
    let n = length (first_line t) in
    let whole = sym (first_and_later t) in
    (ap (take n) whole ∙ take_at (first_line t) (later_lines t) n refl, ap (drop n) whole ∙ drop_at (first_line t) (later_lines t) n refl)

-- A line ends within the text,
pub end_inside : (t : List ℕ) → length (first_line t) ≤ length t
unfolding first_line
end_inside [] = omega arith
end_inside (c ∷ t) = by (is_feed c) refl (end_inside t) where
  by : (b : Bool) → is_feed c ≡ b → length (first_line t) ≤ length t → length (first_line (c ∷ t)) ≤ length (c ∷ t)
  by true e h = rw e (omega arith)
  by false e h = rw e (omega (arith, h))

-- and has at least one byte of it.
pub end_further : (t : List ℕ) → 1 ≤ length t → 1 ≤ length (first_line t)
unfolding first_line
end_further [] h = h
end_further (c ∷ t) h = by (is_feed c) refl where
  by : (b : Bool) → is_feed c ≡ b → 1 ≤ length (first_line (c ∷ t))
  by true e = rw e (omega arith)
  by false e = rw e (omega arith)

-- The first line feed, where there is one, is its last byte.
abbrev feed_place : List ℕ → ℕ
feed_place t = position_or_len (λ b. eqb b 10) t

abbrev Found : List ℕ → Type 0
Found t = (feed_place t < length t → feed_place t + 1 ≡ length (first_line t)) × (length t ≤ feed_place t → feed_place t ≡ length (first_line t))

feed_found : (t : List ℕ) → Found t
unfolding first_line
feed_found [] = (λ h. absurd (omega (arith, h)), λ h. refl)
feed_found (c ∷ t) = by (is_feed c) refl (feed_found t) where
  by : (b : Bool) → is_feed c ≡ b → Found t → Found (c ∷ t)
  by true e f = rw e (λ h. refl, λ h. absurd (omega (arith, h)))
  by false e f = rw e (λ h. omega (arith, f.0 (omega (arith, h))), λ h. omega (arith, f.1 (omega (arith, h))))

-- It stands within the text or where that ends,
feed_within : (t : List ℕ) → feed_place t ≤ length t
feed_within [] = omega arith
feed_within (c ∷ t) = by (is_feed c) refl (feed_within t) where
  by : (b : Bool) → is_feed c ≡ b → feed_place t ≤ length t → feed_place (c ∷ t) ≤ length (c ∷ t)
  by true e h = rw e (omega arith)
  by false e h = rw e (omega (arith, h))

-- and so does what is found of it.
feed_or_end : (t : List ℕ) → unwrap_or (position (λ b. eqb b 10) t) (length t) ≡ feed_place t
feed_or_end t = by (ltb (feed_place t) (length t)) refl where
  by : (b : Bool) → ltb (feed_place t) (length t) ≡ b → unwrap_or (position (λ b. eqb b 10) t) (length t) ≡ feed_place t
  by true e = rw e
  by false e = rw e (let past : length t ≤ feed_place t = ltb-false (feed_place t) (length t) e in omega (arith, feed_within t))

module _ (t : List ℕ) (at : ℕ) (e : at ≡ unwrap_or (position (λ b. eqb b 10) t) (length t)) where
  -- the place that is looked up
  place : at ≡ feed_place t
  place = e ∙ feed_or_end t

  pub ends_behind : at < length t → at + 1 ≡ length (first_line t)
  ends_behind h = rw place ((feed_found t).0 (rw (← place) h))

  pub ends_with : length t ≤ at → at ≡ length (first_line t)
  ends_with h = rw place ((feed_found t).1 (rw (← place) h))

-- So a piece is gone through line by line: each line has a byte at least, and ends within the piece.
pub next_end : (piece : List ℕ) (at n : ℕ) → at < length piece → n ≡ length (first_line (take (length piece - at) (drop at piece)))
    → (1 ≤ n) × (at + n ≤ length piece) × (n ≡ length (take n (take (length piece - at) (drop at piece))))
next_end piece at n h e =
    let rest = take (length piece - at) (drop at piece) in
    let size : length rest ≡ length piece - at = length-take (length piece - at) (drop at piece) ∙ omega (arith, length-drop at piece) in
    let inside : n ≤ length rest = rw e (end_inside rest) in
    let further : 1 ≤ n = rw e (end_further rest (omega (arith, h, size))) in
    (further, omega (arith, inside, size, h), sym (length-take-le n rest inside))

-- ---- the lines of what comes in

-- A byte that is no line feed does not end a line.
goes_on : (c : ℕ) (q : List ℕ) → is_feed c ≡ false → is_feed (last_byte (c ∷ q)) ≡ is_feed (last_byte q)
goes_on c [] e = e
goes_on c (d ∷ q) e = ap is_feed (last_cons c (d ∷ q) (omega arith))

-- A text t comes in behind the beginning p of a line, and u comes in later. Where the first line of t ends in a line feed, it ends the
-- line that p began, and the next line begins behind it;
pub line_ends : (t p u : List ℕ) → is_feed (last_byte (first_line t)) ≡ true → lines_from p (t ++ u) ≡ (p ++ first_line t) ∷ lines_from [] (later_lines t ++ u)
unfolding first_line later_lines lines_from
line_ends [] p u e = absurd (false≢true e)
line_ends (c ∷ t) p u e₀ = by (is_feed c) refl (line_ends t (p ++ (c ∷ [])) u) e₀ where
  by : (b : Bool) → is_feed c ≡ b
      → (is_feed (last_byte (first_line t)) ≡ true → lines_from (p ++ (c ∷ [])) (t ++ u) ≡ ((p ++ (c ∷ [])) ++ first_line t) ∷ lines_from [] (later_lines t ++ u))
      → is_feed (last_byte (first_line (c ∷ t))) ≡ true → lines_from p (c ∷ (t ++ u)) ≡ (p ++ first_line (c ∷ t)) ∷ lines_from [] (later_lines (c ∷ t) ++ u)
  by true e h = rw e (λ f. refl)
  by false e h = rw e (λ f. h (sym (goes_on c (first_line t) e) ∙ f) ∙ ap (λ (l : List ℕ). l ∷ lines_from [] (later_lines t ++ u)) (append_assoc p (c ∷ []) (first_line t)))

-- where it does not, all of t goes on the line that p began.
pub line_goes_on : (t p u : List ℕ) → is_feed (last_byte (first_line t)) ≡ false → lines_from p (t ++ u) ≡ lines_from (p ++ t) u
unfolding first_line lines_from
line_goes_on [] p u e = rw (append-nil p)
line_goes_on (c ∷ t) p u e₀ = by (is_feed c) refl (line_goes_on t (p ++ (c ∷ [])) u) e₀ where
  by : (b : Bool) → is_feed c ≡ b
      → (is_feed (last_byte (first_line t)) ≡ false → lines_from (p ++ (c ∷ [])) (t ++ u) ≡ lines_from ((p ++ (c ∷ [])) ++ t) u)
      → is_feed (last_byte (first_line (c ∷ t))) ≡ false → lines_from p (c ∷ (t ++ u)) ≡ lines_from (p ++ (c ∷ t)) u
  by true e h = rw e (λ f. absurd (false≢true (sym f ∙ e)))
  by false e h = rw e (λ f. h (sym (goes_on c (first_line t) e) ∙ f) ∙ ap (λ (l : List ℕ). lines_from l u) (append_assoc p (c ∷ []) t))

-- The line that a text leaves open is left open by its end,
open_append : (t p u : List ℕ) → open_line p (t ++ u) ≡ open_line (open_line p t) u
unfolding open_line
open_append [] p u = refl
open_append (c ∷ t) p u = by (is_feed c) refl (open_append t [] u) (open_append t (p ++ (c ∷ [])) u) where
  by : (b : Bool) → is_feed c ≡ b → open_line [] (t ++ u) ≡ open_line (open_line [] t) u → open_line (p ++ (c ∷ [])) (t ++ u) ≡ open_line (open_line (p ++ (c ∷ [])) t) u
      → open_line p (c ∷ (t ++ u)) ≡ open_line (open_line p (c ∷ t)) u
  by true e f g = rw e f
  by false e f g = rw e g

open_on : (c : ℕ) (p q : List ℕ) → is_feed c ≡ false → open_line p (c ∷ q) ≡ open_line (p ++ (c ∷ [])) q
unfolding open_line
open_on c p q e = rw e

-- and one line of it ends what was begun, or goes on it.
open_first : (t p : List ℕ) → open_line p (first_line t) ≡ after_part p (first_line t)
unfolding open_line first_line
open_first [] p = sym (append-nil p)
open_first (c ∷ t) p = by (is_feed c) refl (open_first t (p ++ (c ∷ []))) where
  by : (b : Bool) → is_feed c ≡ b → open_line (p ++ (c ∷ [])) (first_line t) ≡ after_part (p ++ (c ∷ [])) (first_line t) → open_line p (first_line (c ∷ t)) ≡ after_part p (first_line (c ∷ t))
  by true e f = rw e
  by false e f = rw (e, goes_on c (first_line t) e) (open_on c p (first_line t) e ∙ f ∙ ap (λ (l : List ℕ). cond (is_feed (last_byte (first_line t))) [] l) (append_assoc p (c ∷ []) (first_line t)))

-- So it is with each line of a piece.
pub open_next : (piece p : List ℕ) (at n : ℕ) → at < length piece → n ≡ length (first_line (take (length piece - at) (drop at piece)))
    → open_line p (take (at + n) piece) ≡ after_part (open_line p (take at piece)) (take n (take (length piece - at) (drop at piece)))
open_next piece p at n h e =
    let rest = drop at piece in
    let all : take (length piece - at) rest ≡ rest = take_all (length piece - at) rest (omega (arith, length-drop at piece)) in
    let here : n ≡ length (first_line rest) = e ∙ ap (λ (l : List ℕ). length (first_line l)) all in
    let first : take n rest ≡ first_line rest = ap (λ (k : ℕ). take k rest) here ∙ (cut_here rest).0 in
    rw (take-add at n piece, all, first, open_append (take at piece) p (first_line rest)) (open_first rest (open_line p (take at piece)))

-- What is kept of a line after a part tells whether it has ended: the next one begins,
module _ (before after : List ℕ) (g answer : Gathered) (part : List ℕ) (s : GoneOn before g part answer after) (n : 1 ≤ length part) where
  last-kept : (p : List ℕ) → Holds before g p → answer.last ≡ last_byte part
  last-kept p h = ap (λ (x : Gathered). x.last) (holds_on before after g answer p part h s).2 ∙ last_append p part n

  pub part_ends : answer.last ≡ 10 → (begun : Gathered) → Begun begun → Follows before g after begun (λ p. after_part p part)
  part_ends e begun b = λ p h.
      let feed : is_feed (last_byte part) ≡ true = eq-eqb (last_byte part) 10 (sym (last-kept p h) ∙ e) in
      rw feed (holds_nothing after begun (holds_on before after g answer p part h s).0 b)

  -- or it goes on.
  pub part_goes_on : (answer.last ≡ 10 → ⊥) → Follows before g after answer (λ p. after_part p part)
  part_goes_on f = λ p h.
      let none : is_feed (last_byte part) ≡ false = ne_eqb (last_byte part) 10 (λ e. f (last-kept p h ∙ e)) in
      rw none (holds_on before after g answer p part h s)

-- So a piece is taken in line by line: what is held is the line that it leaves open as far as it was taken in,
module _ (before : List ℕ) (first : Gathered) (b : List ℕ) (g : Gathered) (piece : List ℕ) (at : ℕ) (f : Follows before first b g (λ p. open_line p (take at piece))) where
  pub piece_goes_on : (b' : List ℕ) (g' : Gathered) (n : ℕ) → at < length piece → n ≡ length (first_line (take (length piece - at) (drop at piece)))
      → (1 ≤ length (take n (take (length piece - at) (drop at piece))) → Follows b g b' g' (λ p. after_part p (take n (take (length piece - at) (drop at piece)))))
      → Follows before first b' g' (λ p. open_line p (take (at + n) piece))
  piece_goes_on b' g' n h e s =
      let next = next_end piece at n h e in
      let some : 1 ≤ length (take n (take (length piece - at) (drop at piece))) = rw (← next.2) next.0 in
      λ p held. rw (open_next piece p at n h e) (s some (open_line p (take at piece)) (f p held))

  -- and at its end that of all of it.
  pub piece_ends : length piece ≤ at → Follows before first b g (λ p. open_line p piece)
  piece_ends h = λ p held. rw (← take_all at piece h) (f p held)

-- At the beginning it is what it was.
pub piece_begins : (b : List ℕ) (g : Gathered) (piece : List ℕ) → Follows b g b g (λ p. open_line p (take 0 piece))
unfolding open_line
piece_begins b g piece = λ p held. held

-- Where nothing more comes in, it tells whether a line was begun.
pub list_ends : (buffer : List ℕ) (g : Gathered) (p : List ℕ) → Holds buffer g p → lines_from p [] ≡ cond (eqb g.held 0) [] (p ∷ [])
unfolding lines_from
list_ends buffer g [] h = rw h.2
list_ends buffer g (c ∷ p) h =
    let some : g.held ≡ 0 → ⊥ = λ e. omega (arith, e, ap (λ (x : Gathered). x.held) h.2) in
    rw (ne_eqb g.held 0 some)
