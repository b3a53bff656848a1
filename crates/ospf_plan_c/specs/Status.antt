-- How calls end, and the line of a run that ended early in the room for it.
use Rattle.std.specs.Prelude.{◌≡◌, ◌<◌, ◌⊎◌, ℕ, List, length}
use Rattle.plan_slices.specs.Room.{IsCopied}

-- the texts are in their rooms
abbrev pub done : ℕ
done = 0

-- so are they, but a line of the study was refused or failed, or the run had a warning
abbrev pub not_accepted : ℕ
not_accepted = 1

-- the name of a file is not text
abbrev pub not_text : ℕ
not_text = 2

-- an input is refused
abbrev pub refused : ℕ
refused = 3

-- an input is too long
abbrev pub too_large : ℕ
too_large = 4

-- memory ran out
abbrev pub no_memory : ℕ
no_memory = 5

-- a room is too small
abbrev pub no_room : ℕ
no_room = 6

-- the line of a run that ended early, its reported length, and the room for it: the line is in the room, or the room is too
-- small and as it was, or there was no memory for the line, whose length is then 0
abbrev pub IsReported : List ℕ → ℕ → List ℕ → List ℕ → Type 0
IsReported line reported room new_room =
    ((reported ≡ length line) × IsCopied line room new_room)
    ⊎ (((reported ≡ length line) × ((length room < length line) × (new_room ≡ room))) ⊎ ((reported ≡ 0) × (new_room ≡ room)))
