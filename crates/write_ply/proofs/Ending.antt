-- The outcome of writing: a refusal that leaves every room as it was, or the file in its room. Assumes nothing.
use Rattle.std.specs.Prelude.{Ok, Err}
use mathlib.Core.Path.{◌≡◌, refl, sym, ap, ap₂, subst, ◌∙◌}
use mathlib.Core.Bool.{not}
use mathlib.Core.List.{List, [], ◌∷◌, ◌++◌, append-nil}
use Prim.Native.Nat.{ℕ, zero, suc, ◌+◌, ◌-◌, ◌*◌, ◌/◌, ◌%◌, ◌≤◌, ◌<◌}
use native.Mathlib.Omega.{arith}
use lib.Dec.{T}
use lib.ListN.{length, get_or, drop, replicate}
use lib.Ieee.{Float, nan, is_nan}
use Rattle.rows.specs.Region.{Only, Filled}
use Rattle.filling.proofs.Filling.{cleared_is}
use Rattle.byte_rows.specs.Put.{Puts}
use Rattle.byte_rows.proofs.Putting.{puts_both, puts_front}
use Rattle.rules.specs.Lists.{all, each}
use Rattle.rules.specs.Mesh.{Point, point, points_of, faces_of, flat_points, coordinates, zero64}
use Rattle.rules.specs.Refusal.{Check, ok, decided, in_domain, no4}
use Rattle.rules.specs.Refusal as refusal
use Rattle.rules.specs.Rooms.{work_room, filled, cleared, outcome, accepted}
use Rattle.rules.specs.Ply.{header, vertex, triple, ply}
use Rattle.rules.specs.WritePlyCall.{WritePlyRooms, write_ply_check, write_ply}
use Rattle.rule_laws.proofs.Lists.{each_append, length_each}
use Rattle.rule_laws.proofs.Flat.{length_points, length_faces, point_in, flat_points_back}
use Rattle.rule_laws.proofs.Firsts.{fine_exactly}
use Rattle.rule_laws.proofs.Equal.{no_nan, near_all}
use Rattle.rule_laws.proofs.PlyWritten.{vertex_long}
use Rattle.refuse.specs.declared.Refusal.{Refusal}
use Rattle.refuse.specs.Verdicts.{number_of, place_of, Limits}
use Rattle.write_ply_refusal.specs.Checks.{write_ply_list, WritePlyAccepted}
use Rattle.write_ply_refusal.proofs.Accept.{write_ply_is, write_ply_accepted}
use Rattle.write_ply.specs.Written.{HeaderAsks, real, RealsAsk, TriplesAsk, rooms_of, outcome_of}

-- ---- the coordinates as the rules put them

-- point by point is coordinate by coordinate
reals_of : (qs : List Point) → each real (each coordinates qs) ≡ each vertex qs
unfolding each vertex
reals_of [] = refl
reals_of (q ∷ qs) = each_append real (coordinates q) (each coordinates qs) ∙ ap (λ (l : List ℕ). each real (coordinates q) ++ l) (reals_of qs)

-- of a flat list of whole points
reals_are : (ps : List Float) → length ps % 3 ≡ 0 → each real ps ≡ each vertex (points_of ps)
unfolding flat_points
reals_are ps h = ap (each real) (sym (flat_points_back ps h)) ∙ reals_of (points_of ps)

-- coordinates in their domain are numbers: each is one of the three of a point
numbers : (ps : List Float) → length ps % 3 ≡ 0 → no4 (points_of ps) ≡ ok → (i : ℕ) → i < length ps → T (not (is_nan (get_or ps i nan)))
unfolding no4 point
numbers ps h e i l =
    let j = i / 3 in
    let k : j < length ps / 3 = omega arith in
    let f = (fine_exactly (λ p. not (all in_domain (coordinates p))) (record { x = zero64; y = zero64; z = zero64 }) 4 (points_of ps)).0 e j (omega (arith, length_points ps)) in
    let d = near_all _ (ap (λ (p : Point). not (all in_domain (coordinates p))) (sym (point_in ps nan j k)) ∙ f) in
    go (i % 3) (omega arith) (omega arith) d.0 d.1 d.2
  where
    go : (r : ℕ) → r < 3 → i ≡ 3 * (i / 3) + r → T (in_domain (get_or ps (3 * (i / 3)) nan)) → T (in_domain (get_or ps (3 * (i / 3) + 1) nan)) → T (in_domain (get_or ps (3 * (i / 3) + 2) nan)) → T (not (is_nan (get_or ps i nan)))
    go zero a b x y z = let c : i ≡ 3 * (i / 3) = omega arith in subst (λ (m : ℕ). T (not (is_nan (get_or ps m nan)))) (sym c) (no_nan _ x)
    go (suc zero) a b x y z = subst (λ (m : ℕ). T (not (is_nan (get_or ps m nan)))) (sym b) (no_nan _ y)
    go (suc (suc zero)) a b x y z = subst (λ (m : ℕ). T (not (is_nan (get_or ps m nan)))) (sym b) (no_nan _ z)
    go (suc (suc (suc r))) a b x y z = absurd (omega arith)

-- ---- the call

module _ (ps : List Float) (fs file w : List ℕ) where
  -- the number of points
  abbrev P : ℕ
  P = length ps / 3

  -- that of faces
  abbrev F : ℕ
  F = length fs / 3

  -- the file of them
  abbrev made : List ℕ
  made = ply (points_of ps) (faces_of fs)

  -- the rooms of an accepted call
  abbrev after : WritePlyRooms
  after = record { file = filled 0 (length made) made file; work = cleared (work_room P F) w }

  -- the rules' check is what the checks found
  found_is : {c : Check} → c ≡ decided (write_ply_list ps fs (length file) (length w)) → c ≡ write_ply_check ps fs (rooms_of file w)
  found_is e = e ∙ write_ply_is ps fs (rooms_of file w)

  -- a refusal changes no buffer
  pub is_refused :
      (r : Refusal) → refusal.no (number_of r) (place_of r) ≡ decided (write_ply_list ps fs (length file) (length w))
      → outcome_of (Err r) file w ≡ write_ply ps fs (rooms_of file w)
  unfolding write_ply outcome
  is_refused r e = ap (λ c. outcome c (rooms_of file w) (length made ∷ []) after) (found_is e)

  module _ (e : ok ≡ decided (write_ply_list ps fs (length file) (length w))) where
    -- what is known where nothing is refused
    is_accepted : WritePlyAccepted ps fs (length file) (length w)
    is_accepted = write_ply_accepted ps fs (length file) (length w) (sym e)

    -- P and F are not too large
    pub limits : Limits P F
    limits = let a = is_accepted.input in record { points = a.faces_fine.points; faces = a.faces_fine.few }

    -- the header can be put
    pub header_asks : HeaderAsks file P F
    header_asks = record { points = limits.points; faces = limits.faces; room = omega (arith, is_accepted.room_file) }

    -- the work room can be cleared
    pub wipe_ask : {n : ℕ} → n ≡ work_room P F → 0 + n ≤ length w
    wipe_ask q = omega (arith, is_accepted.room_work)

    module _ {f₁ : List ℕ} {a : ℕ} (g₁ : Puts file 0 (header P F) f₁ a) where
      -- behind it the coordinates
      pub reals_ask : RealsAsk f₁ a ps
      reals_ask =
          let l = g₁.only.long in
          let q = is_accepted in
          let d = q.input.whole in
          record { room = omega (arith, q.room_file, g₁.ends); numbers = numbers ps d q.input.domain }

      -- which are 24 bytes a point
      reals_long : length (each real ps) ≡ 24 * P
      reals_long = ap length (reals_are ps is_accepted.input.whole) ∙ length_each 24 vertex vertex_long (points_of ps) ∙ ap (λ (m : ℕ). 24 * m) (length_points ps)

      module _ {f₂ : List ℕ} {b : ℕ} (g₂ : Puts f₁ a (each real ps) f₂ b) where
        -- behind them the faces
        pub triples_ask : TriplesAsk f₂ b fs
        triples_ask =
            let l = g₁.only.long in
            let k = g₂.only.long in
            let d = reals_long in
            record { room = omega (arith, is_accepted.room_file, g₁.ends, g₂.ends); few = limits.faces }

        module _ {f₃ : List ℕ} {c : ℕ} (g₃ : Puts f₂ b (each triple (faces_of fs)) f₃ c) where
          -- one behind the other they are the file
          whole : Puts file 0 made f₃ c
          unfolding ply
          whole =
              let x : header P F ++ each real ps ++ each triple (faces_of fs) ≡ header (length (points_of ps)) (length (faces_of fs)) ++ each vertex (points_of ps) ++ each triple (faces_of fs) =
              ap₂ (λ (l m : List ℕ). l ++ m ++ each triple (faces_of fs)) (ap₂ header (sym (length_points ps)) (sym (length_faces fs))) (reals_are ps is_accepted.input.whole) in
              subst (λ (l : List ℕ). Puts file 0 l f₃ c) x (puts_both (puts_both g₁ g₂) g₃)

          -- which fills its room
          file_is : f₃ ≡ filled 0 (length made) made file
          unfolding filled
          file_is =
              let z : length made - length made ≡ 0 = omega arith in
              puts_front whole ∙ ap (λ (l : List ℕ). l ++ drop (length made) file) (sym (ap (λ (m : ℕ). made ++ replicate m 0) z ∙ append-nil made))

          -- with the work room cleared: the rules' outcome
          pub is_done :
              {w₁ : List ℕ} {n : ℕ} → n ≡ work_room P F → Only 0 n w w₁ → Filled 0 n 0 w₁ → outcome_of (Ok c) f₃ w₁ ≡ write_ply ps fs (rooms_of file w)
          unfolding write_ply outcome
          is_done {w₁} q ow hw =
              let x : c ≡ length made = omega (arith, whole.ends) in
              let y : w₁ ≡ after.work = cleared_is is_accepted.room_work (rw q at ow) (rw q at hw) in
              let z = file_is in
              ap₂ (λ (l : List ℕ) (rooms : WritePlyRooms). record { answer = accepted l; rooms = rooms }) (ap (λ (m : ℕ). m ∷ []) x) (λ i. record { file = z i; work = y i })
              ∙ ap (λ c. outcome c (rooms_of file w) (length made ∷ []) after) (found_is e)
