-- Document 02, wish 1: what is kept of a line of any length, and how it goes on with the next part.
use Rattle.std.specs.Prelude.{ℕ, ◌+◌, ◌-◌, min, ◌≡◌, cond, List, [], ◌∷◌, ◌++◌, length, take, drop, eqb}
use Rattle.columns.specs.Texts.{how_many}
use Rattle.semicolons.specs.Lines.{is_semicolon, is_feed, last_byte}
use Rattle.gathering.specs.declared.Gathered.{Gathered}

-- A lent buffer of 250 bytes has room for the longest line of a station, 249 bytes, and one byte more.
abbrev pub room : ℕ
room = 250

-- What is kept of a text: a line has 29 semicolons and one line feed, so that one more of each is counted and no further.
abbrev pub kept_of : List ℕ → Gathered
kept_of t =
    record {
      held = min room (length t);
      semicolons = min 30 (how_many is_semicolon t);
      feeds = min 2 (how_many is_feed t);
      last = last_byte t;
    }

-- A buffer and what is kept beside it hold a text: its first bytes stand in the buffer, as many as there is room for.
abbrev pub Holds : List ℕ → Gathered → List ℕ → Type 0
Holds buffer g t = (length buffer ≡ room) × (take (length t) buffer ≡ take room t) × (g ≡ kept_of t)

-- What was held goes over into what is held now: where it was p, it is `next p`.
abbrev pub Follows : List ℕ → Gathered → List ℕ → Gathered → (List ℕ → List ℕ) → Type 0
Follows before g after answer next = (p : List ℕ) → Holds before g p → Holds after answer (next p)

-- The last byte after a part; one without bytes changes nothing.
unfoldable pub last_after : ℕ → List ℕ → ℕ
last_after last part = cond (eqb (length part) 0) last (last_byte part)

-- What is kept after a part.
abbrev pub kept_with : List ℕ → Gathered → List ℕ → Gathered
kept_with buffer g part =
    record {
      held = min (length buffer) (g.held + length part);
      semicolons = min 30 (g.semicolons + how_many is_semicolon part);
      feeds = min 2 (g.feeds + how_many is_feed part);
      last = last_after g.last part;
    }

-- The buffer after a part: the bytes that it held, the part as far as there is room for it, and then the bytes as they were.
unfoldable pub holding : List ℕ → ℕ → List ℕ → List ℕ
holding buffer held part = take held buffer ++ (take (length buffer - held) part ++ drop (held + length part) buffer)

-- What is kept after all parts of a line,
abbrev pub kept_through : List (List ℕ) → List ℕ → Gathered → Gathered
kept_through [] buffer g = g
kept_through (p ∷ ps) buffer g = kept_through ps (holding buffer g.held p) (kept_with buffer g p)

-- and the buffer then.
abbrev pub held_through : List (List ℕ) → List ℕ → Gathered → List ℕ
held_through [] buffer g = buffer
held_through (p ∷ ps) buffer g = held_through ps (holding buffer g.held p) (kept_with buffer g p)
