-- A part put behind the bytes that a buffer holds, as far as there is room.
use mathlib.Core.Path.{◌≡◌, refl, sym, ap, ◌∙◌}
use mathlib.Core.Bool.{Bool, true, false}
use mathlib.Core.List.{List, [], ◌++◌, append-nil}
use Prim.Native.Nat.{ℕ, ◌+◌, ◌-◌, ◌≤◌, ◌<◌, min}
use native.Mathlib.Omega.{arith}
use lib.Dec.{leb}
use lib.ListN.{length, take, drop, length-append, length-take, length-drop, drop_of_length-le}
use lib.Seq.{take_all, take-length, take-append-le, take-append-add, take_at, drop-drop}
use borrow.Author.Tests.{leb-true, leb-false}
use Rattle.gathering.specs.Gathering.{holding}

-- To take more bytes than there are is to take all,
pub take_to : (m w : ℕ) (p : List ℕ) → m ≡ min w (length p) → take m p ≡ take w p
take_to m w p e = by (leb w (length p)) refl where
  by : (b : Bool) → leb w (length p) ≡ b → take m p ≡ take w p
  by true h = let same : m ≡ w = omega (arith, e, leb-true w (length p) h) in rw same
  by false h =
      let long = leb-false w (length p) h in
      take_all m p (omega (arith, e, long)) ∙ sym (take_all w p (omega (arith, long)))

-- and to drop more is to drop all.
pub drop_to : (m w : ℕ) (p : List ℕ) → m ≡ min w (length p) → drop m p ≡ drop w p
drop_to m w p e = by (leb w (length p)) refl where
  by : (b : Bool) → leb w (length p) ≡ b → drop m p ≡ drop w p
  by true h = let same : m ≡ w = omega (arith, e, leb-true w (length p) h) in rw same
  by false h =
      let long = leb-false w (length p) h in
      drop_of_length-le p {i = m} (omega (arith, e, long)) ∙ sym (drop_of_length-le p {i = w} (omega (arith, long)))

module _ (b p : List ℕ) (held : ℕ) where
  -- A buffer that is full stays as it was.
  pub nothing_fits : length b ≤ held → b ≡ holding b held p
  unfolding holding
  nothing_fits h =
      let none : length b - held ≡ 0 = omega arith in
      rw (take_all held b h, none, drop_of_length-le b {i = held + length p} (omega arith)) (sym (append-nil b))

  module _ (end : ℕ) (e : end ≡ min (length b) (held + length p)) where
    -- Where there is room, as much of the part is copied
    pub part_size : length (take (end - held) p) ≡ end - held
    part_size = length-take (end - held) p ∙ omega (arith, e)

    -- as the bytes up to its end take,
    pub copy_room : length (take (end - held) (drop held b)) ≡ length (take (end - held) p)
    copy_room = omega (arith, e, part_size, length-take (end - held) (drop held b), length-drop held b)

    -- and the others stay.
    pub part_fits : (copied : List ℕ)
        → copied ≡ take (end - held) p
        → held < length b → take held b ++ (copied ++ drop (end - held) (drop held b)) ≡ holding b held p
    unfolding holding
    part_fits copied c h =
        let m = end - held in
        let rest : drop m (drop held b) ≡ drop (held + length p) b = drop-drop m held b ∙ drop_to (held + m) (held + length p) b (omega (arith, e)) in
        rw (c, take_to m (length b - held) p (omega (arith, e)), rest)

-- The first bytes of a part that is cut off at w, and of what stands behind it.
first-bytes : (w : ℕ) (p d : List ℕ) → (w < length p → d ≡ []) → take (length p) (take w p ++ d) ≡ take w p
first-bytes w p d f = by (leb (length p) w) refl where
  by : (b : Bool) → leb (length p) w ≡ b → take (length p) (take w p ++ d) ≡ take w p
  by true h = rw (take_all w p (leb-true (length p) w h)) (take_at p d (length p) refl)
  by false h = rw (f (leb-false (length p) w h), append-nil (take w p)) (take_all (length p) (take w p) (omega (arith, length-take w p, leb-false (length p) w h)))

module _ (b t p : List ℕ) (same : take (length t) b ≡ take (length b) t) where
  -- The bytes of a text that is held whole, and of the part behind it,
  held_whole : length t ≤ length b → take (length (t ++ p)) (holding b (length t) p) ≡ take (length b) (t ++ p)
  unfolding holding
  held_whole h =
      let w = length b - length t in
      let d = drop (length t + length p) b in
      let whole : take (length t) b ≡ t = same ∙ take_all (length b) t h in
      let sum : length b ≡ length t + w = omega arith in
      let left : take (length t + length p) (t ++ (take w p ++ d)) ≡ t ++ take w p =
      take-append-add t (take w p ++ d) (length p) ∙ ap (λ (l : List ℕ). t ++ l) (first-bytes w p d (λ n. drop_of_length-le b {i = length t + length p} (omega (arith, n)))) in
      let right : take (length b) (t ++ p) ≡ t ++ take w p = ap (λ (n : ℕ). take n (t ++ p)) sum ∙ take-append-add t p w in
      rw (whole, length-append t p) left ∙ sym right

  -- and of one that fills the buffer.
  held_full : (held : ℕ) → length b ≤ held → length b ≤ length t → take (length (t ++ p)) (holding b held p) ≡ take (length b) (t ++ p)
  held_full held full h =
      rw (← nothing_fits b p held full, take-append-le (length b) t p h) (take_all (length (t ++ p)) b (omega (arith, length-append t p)) ∙ sym (take_all (length t) b h) ∙ same)

  -- So the buffer holds the first bytes of both.
  pub held_on : (held : ℕ) → held ≡ min (length b) (length t) → take (length (t ++ p)) (holding b held p) ≡ take (length b) (t ++ p)
  held_on held e = by (leb (length t) (length b)) refl where
    by : (c : Bool) → leb (length t) (length b) ≡ c → take (length (t ++ p)) (holding b held p) ≡ take (length b) (t ++ p)
    by true h =
        let fits = leb-true (length t) (length b) h in
        let all : held ≡ length t = omega (arith, e, fits) in
        rw all (held_whole fits)
    by false h =
        let long = leb-false (length t) (length b) h in
        held_full held (omega (arith, e, long)) (omega (arith, long))

-- The buffer keeps its length.
pub holding-length : (b p : List ℕ) (held : ℕ) → length (holding b held p) ≡ length b
unfolding holding
holding-length b p held =
    let part = take (length b - held) p in
    let rest = drop (held + length p) b in
    omega (arith, length-append (take held b) (part ++ rest), length-append part rest, length-take held b, length-take (length b - held) p, length-drop (held + length p) b)
