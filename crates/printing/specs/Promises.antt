-- What putting a text into lent bytes promises, as relations between the text, the bytes, the answer and what is left there.
use Rattle.std.specs.Prelude.{ℕ, ◌+◌, ◌≤◌, ◌≡◌, List, ◌++◌, length, take, drop}

-- A text written first into lent bytes: its length is answered, and behind its end stands what stood there.
pub record Written (text out : List ℕ) (answer : ℕ) (after : List ℕ) : Type 0 where
  pub size : answer ≡ length text
  pub stands : after ≡ text ++ drop (length text) out

-- A text put into lent bytes from start on: there is room for it, it ends where the answer says, and all other bytes are as they were.
pub record Appended (out : List ℕ) (start : ℕ) (text after : List ℕ) (answer : ℕ) : Type 0 where
  pub fits : start + length text ≤ length out
  pub ends : answer ≡ start + length text
  pub stands : after ≡ take start out ++ (text ++ drop (start + length text) out)
