-- The coordinates that a repair leaves are numbers, whatever its options are: no pass makes a coordinate. Assumes nothing.
use mathlib.Core.Path.{◌≡◌}
use mathlib.Core.Bool.{Bool, true, false, not, cond}
use mathlib.Core.List.{List, [], ◌∷◌}
use Prim.Native.Nat.{ℕ, zero, suc}
use lib.Dec.{T, ltb}
use lib.ListN.{length, drop}
use lib.Ieee.{Float, nan, inf, fin, is_nan, le}
use Rattle.rules.specs.Lists.{below, all}
use Rattle.rules.specs.Mesh.{Point, Face, coordinates, point, flat_points}
use Rattle.rules.specs.State.{State, start, counted, with_faces, dropped, vertices_split}
use Rattle.rules.specs.Pass1.{pass1}
use Rattle.rules.specs.Pass2.{pass2}
use Rattle.rules.specs.Pass3.{pass3}
use Rattle.rules.specs.Pass4.{pass4}
use Rattle.rules.specs.Pass5.{fans, split_off, split, pass5}
use Rattle.rules.specs.Pass6.{marked6, pass6}
use Rattle.rules.specs.Refusal.{ok, in_domain, no4}
use Rattle.rules.specs.Repair.{bit, optional, passes, repaired}
use Rattle.rule_laws.proofs.Rising.{All, all_append, all_imp, all_leave, all_each}
use Rattle.rule_laws.proofs.Members.{all_elim}
use Rattle.rule_laws.proofs.Lists.{through_keeps}
use Rattle.rule_laws.proofs.Firsts.{at_first_all}

-- a float that is a number
abbrev pub IsNumber : Float → Type 0
IsNumber x = T (not (is_nan x))

-- a point whose coordinates are
abbrev Known : Point → Type 0
Known p = All IsNumber (coordinates p)

-- all points in hand
abbrev Knows : State → Type 0
Knows m = All Known m.points

-- a point by its number; where there is none, zeros
point_known : (ps : List Point) (v : ℕ) → All Known ps → Known (point ps v)
unfolding point is_nan
point_known [] v h = (tt, (tt, (tt, tt)))
point_known (p ∷ ps) zero h = h.0
point_known (p ∷ ps) (suc v) h = point_known ps v h.1

-- the first four passes keep the points
pass1_knows : (s : Float) (m : State) → Knows m → Knows (pass1 s m)
unfolding pass1 dropped counted with_faces
pass1_knows s m k = k

pass2_knows : (m : State) → Knows m → Knows (pass2 m)
unfolding pass2 dropped counted with_faces
pass2_knows m k = k

pass3_knows : (m : State) → Knows m → Knows (pass3 m)
unfolding pass3 dropped counted with_faces
pass3_knows m k = k

pass4_knows : (m : State) → Knows m → Knows (pass4 m)
unfolding pass4 dropped counted with_faces
pass4_knows m k = k

-- pass 5 adds copies
split_off_knows : (v : ℕ) (m : State) (fan : List ℕ) → Knows m → Knows (split_off v m fan)
unfolding split_off
split_off_knows v m fan k = all_append Known m.points (point m.points v ∷ []) k (point_known m.points v k, tt)

split_knows : (m : State) (v : ℕ) → Knows m → Knows (split m v)
unfolding split counted
split_knows m v k =
    through_keeps Knows (split_off v) (λ n fan h. split_off_knows v n fan h) (drop 1 (fans m.faces v)) (counted vertices_split (cond (ltb 1 (length (fans m.faces v))) 1 0) m) k

pass5_knows : (m : State) → Knows m → Knows (pass5 m)
unfolding pass5
pass5_knows m k = through_keeps Knows split split_knows (below (length m.points)) m k

-- pass 6 leaves some out
pass6_knows : (m : State) → Knows m → Knows (pass6 m)
unfolding pass6
pass6_knows m k = all_leave Known (marked6 m.faces) m.points k

-- a pass whose option is not set changes nothing
optional_knows : (b : Bool) (pass : State → State) (m : State) → ((n : State) → Knows n → Knows (pass n)) → Knows m → Knows (optional b pass m)
unfolding optional
optional_knows true pass m h k = h m k
optional_knows false pass m h k = k

-- all six
passes_know : (s : Float) (options : ℕ) (m : State) → Knows m → Knows (passes s options m)
unfolding passes
passes_know s options m k =
    optional_knows (bit 5 options) pass6 _ pass6_knows
    (optional_knows (bit 3 options) pass5 _ pass5_knows
    (optional_knows (bit 4 options) pass4 _ pass4_knows
    (optional_knows (bit 2 options) pass3 _ pass3_knows
    (optional_knows (bit 1 options) pass2 _ pass2_knows
    (optional_knows (bit 0 options) (pass1 s) m (pass1_knows s) k)))))

-- a coordinate in the domain is a number
domain_number : (x : Float) → T (in_domain x) → IsNumber x
unfolding in_domain le is_nan
domain_number nan t = absurd t
domain_number (inf b) t = tt
domain_number (fin b m e) t = tt

-- twice denied
not_not : (b : Bool) → T (not (not b)) → T b
not_not true t = tt
not_not false t = t

-- not refused 4: the coordinates are numbers
no4_known : (ps : List Point) → no4 ps ≡ ok → All Known ps
unfolding no4
no4_known ps e =
    all_imp (λ p. T (not (not (all in_domain (coordinates p))))) Known
    (λ p t. all_imp (λ x. T (in_domain x)) IsNumber domain_number (coordinates p) (all_elim in_domain (coordinates p) (not_not (all in_domain (coordinates p)) t)))
    ps (at_first_all 4 (λ p. not (all in_domain (coordinates p))) ps e)

-- what a repair leaves
pub repaired_known : (s : Float) (options : ℕ) (ps : List Point) (fs : List Face) → no4 ps ≡ ok → All IsNumber (flat_points (repaired s options ps fs).points)
unfolding repaired start flat_points
repaired_known s options ps fs e = all_each IsNumber coordinates (repaired s options ps fs).points (passes_know s options (start ps fs) (no4_known ps e))
