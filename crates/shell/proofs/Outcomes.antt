-- From the outcome of a call to what C is given: the same numbers and rooms. Assumes nothing.
use mathlib.Core.Path.{◌≡◌, ap}
use mathlib.Core.List.{List}
use Prim.Native.Nat.{ℕ}
use lib.ListN.{length, replicate, length-replicate}
use Rattle.rules.specs.Rooms.{accepted, refused, Outcome}
use Rattle.shell.specs.Told.{told, Given}

module _ {R : Type 0} {rooms : R} {o : Outcome R} where
  -- accepted: 0 and 0, and the entries
  pub given_accepted : {entries : List ℕ} → record { answer = accepted entries; rooms = rooms } ≡ o → Given 0 0 entries rooms o
  given_accepted {entries} e = record { answer = ap (λ q. told (length entries) q.answer) e; after = ap (λ q. q.rooms) e }

  -- refused: the number and the place, and 0 for each answer room
  pub given_refused : (count : ℕ) {n p : ℕ} → record { answer = refused n p; rooms = rooms } ≡ o → Given n p (replicate count 0) rooms o
  given_refused count e = record { answer = rw length-replicate (ap (λ q. told count q.answer) e); after = ap (λ q. q.rooms) e }
