-- The whole line: the loop over the labels, the message where all are zero, and the room after an accepted call. Assumes nothing.
use mathlib.Core.Path.{◌≡◌, refl, sym, ◌∙◌}
use mathlib.Core.List.{List, ◌++◌}
use Prim.Native.Nat.{ℕ, ◌+◌, ◌-◌, ◌*◌, ◌≤◌, ◌<◌}
use native.Mathlib.Omega.{arith}
use lib.ListN.{length, get_or, replicate, take, drop}
use lib.Seq.{take-append_seam, drop-append_seam}
use Rattle.std.proofs.lemmas.List.{append_assoc, drop-drop}
use Rattle.refuse.specs.Verdicts.{number_of, place_of}
use Rattle.refuse.specs.declared.Refusal.{Refusal}
use Rattle.line_refusal.specs.Checks.{line_list, LineAccepted}
use Rattle.line_refusal.proofs.Accept.{line_is, line_accepted}
use Rattle.rules.specs.Lists.{filter}
use Rattle.rules.specs.Line.{bytes, joined, summed, line}
use Rattle.rules.specs.Refusal.{ok, no, decided}
use Rattle.rules.specs.Rooms.{filled, outcome}
use Rattle.rules.specs.LineCall.{line_check, write_line}
use Rattle.std.specs.Prelude.{Ok, Err}
use Rattle.rows.specs.Region.{part}
use Rattle.rows.proofs.Regions.{length_part}
use Rattle.byte_rows.specs.Put.{Puts}
use Rattle.line.specs.Put.{label_count, PartAsks, LineGives, more, shown, parts, outcome_of}
use Rattle.byte_rows.proofs.Putting.{puts_none, puts_both, puts_front}
use Rattle.line.proofs.Words.{more_short}
use Rattle.line.proofs.Joining.{so_far, so_far_next, so_far_all, clean, line_clean, line_parts}
use Rattle.line.proofs.Summed.{summed_long}

-- as many numbers are printed as there are labels
printed : {counts : List ℕ} {room : ℕ} → LineAccepted counts room → length (summed counts) ≡ label_count
printed {counts} p = omega (arith, p.whole, summed_long counts (omega (arith, p.whole)))

-- ---- the loop over the labels

-- after k labels: the line of their numbers stands in front, at most 42 bytes for each
pub record Kept (counts w₀ w : List ℕ) (at k : ℕ) : Type 0 where
  pub at_most : k ≤ label_count
  pub puts : Puts w₀ 0 (so_far (summed counts) k) w at
  pub short : at ≤ 42 * k

-- what a turn needs: a count behind to read, and room for its part
pub record Turn (counts w : List ℕ) (at k : ℕ) : Type 0 where
  pub count : k + 1 < length counts
  pub asks : PartAsks w at 42 k

-- before the first turn the line is empty
pub begin : {counts w : List ℕ} → LineAccepted counts (length w) → Kept counts w w 0 0
unfolding shown filter joined
begin p = record { at_most = omega arith; puts = puts_none (omega arith); short = omega arith }

module _ {counts w₀ w : List ℕ} {at k : ℕ} (p : LineAccepted counts (length w₀)) (v : Kept counts w₀ w at k) where
  -- 42 bytes for each label are below 512
  pub turn : k < label_count → Turn counts w at k
  turn h =
      let l = v.puts.only.long in
      record { count = omega (arith, p.whole); asks = record { label = h; room = omega (arith, v.short, p.room_line) } }

  -- one number more goes on where the line ends
  pub again : {w' : List ℕ} {end n : ℕ} → k < label_count → n ≡ get_or (summed counts) k 0 → Puts w at (more at n k) w' end → Kept counts w₀ w' end (k + 1)
  again {w'} {end} {n} h s q =
      let e : at ≡ length (so_far (summed counts) k) = omega (arith, v.puts.ends) in
      record {
        at_most = omega arith;
        puts = rw (so_far_next (summed counts) (printed p) k h, ← e, ← s) (puts_both v.puts q);
        short = omega (arith, v.short, q.ends, more_short at n k h);
      }

  -- after all labels it is the line of all
  pub done : label_count ≤ k → LineGives w₀ (parts (summed counts)) w at
  done h =
      let e : k ≡ label_count = omega (arith, v.at_most) in
      record { puts = rw (so_far_all (summed counts) (printed p)) at (rw e at v.puts); short = omega (arith, v.short) }

-- ---- the message where all are zero

module _ {counts w w' : List ℕ} {end : ℕ} (p : LineAccepted counts (length w)) (q : LineGives w (parts (summed counts)) w' end) where
  -- the line is the message, put in front
  pub clean_done : {w'' : List ℕ} {last : ℕ} → end ≡ 0 → Puts w' 0 clean w'' last → LineGives w (line counts) w'' last
  unfolding bytes line
  clean_done e r =
      record { puts = rw (line_clean (summed counts) (printed p) (omega (arith, q.puts.ends))) (puts_both (rw e at q.puts) r); short = omega (arith, r.ends) }

  -- the line is the parts
  pub parts_done : (end ≡ 0 → ⊥) → LineGives w (line counts) w' end
  unfolding line
  parts_done h =
      let n : length (parts (summed counts)) ≡ 0 → ⊥ = omega (arith, q.puts.ends) in
      record { puts = rw (line_parts (summed counts) (printed p) n) q.puts; short = q.short }

-- ---- the room

-- zeros behind the line fill the stated room
pub room_done : {w xs w' : List ℕ} {end : ℕ} → LineGives w xs w' end → take end w' ++ (replicate (512 - end) 0 ++ drop (512 - end) (drop end w')) ≡ filled 0 512 xs w
unfolding filled
room_done {w} {xs} {w'} {end} p =
    let e : end ≡ length xs = omega (arith, p.puts.ends) in
    let n : length xs + (512 - length xs) ≡ 512 = omega (arith, p.short) in
    rw (e, puts_front p.puts, take-append_seam xs (drop (length xs) w), drop-append_seam xs (drop (length xs) w), drop-drop (512 - length xs) (length xs) w, n) (sym (append_assoc xs (replicate (512 - length xs) 0) (drop 512 w)))

-- they have room there
pub zeros_asks : {counts w xs w' : List ℕ} {end : ℕ} → LineAccepted counts (length w) → LineGives w xs w' end → end + (512 - end) ≤ length w'
zeros_asks p q =
    let l = q.puts.only.long in
    omega (arith, p.room_line, q.short)

-- ---- the call: what the checks found decides

module _ (counts w : List ℕ) where
  -- a refusal is the rules', and the room is as it was
  pub refused_done : (r : Refusal) → no (number_of r) (place_of r) ≡ decided (line_list counts (length w)) → outcome_of (Err r) w ≡ write_line counts w
  unfolding write_line outcome
  refused_done r e =
      let q : line_check counts w ≡ no (number_of r) (place_of r) = sym (line_is counts w) ∙ sym e in
      rw q

  -- else the line stands in the room, and zeros behind it
  pub line_done :
      {w' zeros : List ℕ} {end : ℕ} → ok ≡ decided (line_list counts (length w)) → LineGives w (line counts) w' end → zeros ≡ replicate (length (part w' end (512 - end))) 0
      → outcome_of (Ok end) (take end w' ++ (zeros ++ drop (512 - end) (drop end w'))) ≡ write_line counts w
  unfolding write_line outcome
  line_done {w'} {zeros} {end} e p z =
      let q : line_check counts w ≡ ok = sym (line_is counts w) ∙ sym e in
      let l : end ≡ length (line counts) = omega (arith, p.puts.ends) in
      let n = length_part w' end (512 - end) (zeros_asks (line_accepted counts (length w) (sym e)) p) in
      rw (q, z, n, room_done p, l) refl
