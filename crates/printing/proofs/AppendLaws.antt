-- Texts put into lent bytes one behind the other: two that follow each other are one text, and so is none.
use mathlib.Core.Path.{◌≡◌, refl, sym, ap, ◌∙◌}
use mathlib.Core.List.{List, [], ◌++◌, append_assoc, append-nil}
use Prim.Native.Nat.{ℕ, ◌+◌, ◌-◌, ◌≤◌}
use native.Mathlib.Nat.{add-zero, add-sub_cancel_left, le_refl}
use native.Mathlib.Omega.{arith}
use lib.ListN.{length, take, drop, length-append, length-drop, drop_of_length-le, take-append-drop}
use lib.Seq.{take_at, take_all, drop_at, drop-drop, length-take-le}
use Rattle.printing.specs.Promises.{Appended}

-- Nothing put in changes nothing.
pub none : (out : List ℕ) (start : ℕ) → start ≤ length out → Appended out start [] out start
none out start h =
    record {
      fits = omega arith;
      ends = sym (add-zero start);
      stands = sym (rw (add-zero start) (take-append-drop start out));
    }

-- so many bytes lead up to the end of a text
front : (a x : List ℕ) (p : ℕ) → p ≤ length a → length (take p a ++ x) ≡ p + length x
front a x p h = rw (length-append, length-take-le p a h)

-- The bytes b that are left when a text x is put into a from p on.
module _ (a x b : List ℕ) (p : ℕ) (h : p ≤ length a) (e : b ≡ take p a ++ (x ++ drop (p + length x) a)) where
  -- those up to its end, and those behind it,
  grouped : b ≡ (take p a ++ x) ++ drop (p + length x) a
  grouped = e ∙ sym (append_assoc (take p a) x (drop (p + length x) a))

  -- taken apart there
  before_end : take (p + length x) b ≡ take p a ++ x
  before_end = rw grouped (take_at (take p a ++ x) (drop (p + length x) a) (p + length x) (front a x p h))

  -- with nothing behind it changed
  after_end : drop (p + length x) b ≡ drop (p + length x) a
  after_end = rw grouped (drop_at (take p a ++ x) (drop (p + length x) a) (p + length x) (front a x p h))

-- There are as many bytes as before.
kept-length : (a x b : List ℕ) (p : ℕ) → p + length x ≤ length a → b ≡ take p a ++ (x ++ drop (p + length x) a) → length b ≡ length a
kept-length a x b p h e =
    let l : length (take p a ++ x) ≡ p + length x = front a x p (omega arith) in
    ap length (grouped a x b p (omega arith) e) ∙ rw (length-append, l, length-drop) (omega arith)

-- A text behind a text is both as one.
pub then : {a b c x y : List ℕ} {p q r : ℕ} → Appended a p x b q → Appended b q y c r → Appended a p (x ++ y) c r
then {a} {b} {c} {x} {y} {p} {q} {r} s t =
    let h : p ≤ length a = omega (arith, s.fits) in
    let lb : length b ≡ length a = kept-length a x b p s.fits s.stands in
    let lxy : length (x ++ y) ≡ length x + length y = length-append x y in
    let eq : q ≡ p + length x = s.ends in
    let sum : p + length (x ++ y) ≡ p + length x + length y = omega arith in
    let fb : q + length y ≤ length b = t.fits in
    let er : r ≡ q + length y = t.ends in
    let start : take q b ≡ take p a ++ x = rw eq (before_end a x b p h s.stands) in
    let behind : drop (q + length y) b ≡ drop (p + length x + length y) a =
    sym (drop-drop (length y) q b)
    ∙ ap (λ (l : List ℕ). drop (length y) l) (rw eq (after_end a x b p h s.stands))
    ∙ drop-drop (length y) (p + length x) a in
    record {
      fits = omega arith;
      ends = omega arith;
      stands =
          t.stands
          ∙ rw (start, behind, sum)
          (append_assoc (take p a) x (y ++ drop (p + length x + length y) a)
          ∙ ap (λ (l : List ℕ). take p a ++ l) (sym (append_assoc x y (drop (p + length x + length y) a))));
    }

-- A part of the lent bytes that was written over, put back.
pub put_in : (out text part : List ℕ) (start k : ℕ) → length text ≡ k → start + k ≤ length out → part ≡ text
    → Appended out start text (take start out ++ (part ++ drop (start + k - start) (drop start out))) (start + k)
put_in out text part start k l h e =
    let m : start + k - start ≡ k = add-sub_cancel_left start k in
    record {
      fits = rw l h;
      ends = rw l;
      stands = rw (e, m, l, drop-drop k start out);
    }

-- The part of the lent bytes from start to their end, and all of them with that part put back.
abbrev pub rest_of : List ℕ → ℕ → List ℕ
rest_of out start = take (length out - start) (drop start out)

abbrev pub with_rest : List ℕ → ℕ → List ℕ → List ℕ
with_rest out start part = take start out ++ (part ++ drop (length out - start) (drop start out))

module _ (out : List ℕ) (start : ℕ) where
  -- It is all that stands there,
  rest_all : rest_of out start ≡ drop start out
  rest_all = take_all (length out - start) (drop start out) (rw (length-drop start out) (le_refl (length out - start)))

  -- and nothing is behind it.
  put_back : (part : List ℕ) → with_rest out start part ≡ take start out ++ part
  put_back part =
      let none : drop (length out - start) (drop start out) ≡ [] = drop_of_length-le (drop start out) {i = length out - start} (rw (length-drop start out) (le_refl (length out - start))) in
      rw (none, append-nil part)

  -- There are as many of these bytes as are not before them.
  pub rest_length : start ≤ length out → start + length (rest_of out start) ≡ length out
  rest_length h = rw rest_all (omega (arith, length-drop start out))

  -- Left as it was, all is as it was;
  pub rest_kept : with_rest out start (rest_of out start) ≡ out
  rest_kept = put_back (rest_of out start) ∙ rw rest_all (take-append-drop start out)

  -- a text written first into it was put in from start on.
  pub rest_written : (text : List ℕ) → start + length text ≤ length out → Appended out start text (with_rest out start (text ++ drop (length text) (rest_of out start))) (start + length text)
  rest_written text h =
      record {
        fits = h;
        ends = refl;
        stands = put_back (text ++ drop (length text) (rest_of out start)) ∙ rw (rest_all, drop-drop (length text) start out);
      }
