-- The whole repair on the lists in the rooms: the given lists are copied, and the six passes follow. Assumes nothing.
use mathlib.Core.Path.{◌≡◌, sym, ap, ap₂, ◌∙◌}
use mathlib.Core.List.{List}
use Prim.Native.Nat.{ℕ, ◌*◌, ◌/◌, ◌^◌, ◌≤◌, ◌<◌}
use native.Mathlib.Nat.{zero-add}
use native.Mathlib.Omega.{arith}
use lib.ListN.{length, get_or, take, replicate, length-map}
use lib.Seq.{ext_get_or, get_or-take, length-take-le, take_all}
use lib.Ieee.{Float, nan}
use Rattle.rows.specs.Region.{Only, Holds, RowAsks, RowGives}
use Rattle.rows.proofs.Regions.{only_both, only_more}
use Rattle.rules.specs.Mesh.{face, points_of, faces_of}
use Rattle.rules.specs.Repair.{passes, repaired}
use Rattle.rules.specs.State.{start, report_counts}
use Rattle.rule_laws.proofs.Flat.{flat_faces_back, length_faces, numbered}
use Rattle.rule_laws.proofs.Lists.{get_or_map_in}
use Rattle.rule_laws.proofs.Origins.{origins}
use Rattle.rule_laws.proofs.Carried.{with_are}
use Rattle.leaving.specs.Pass.{carried}
use Rattle.passes.specs.Passing.{Lists, lists, state_in, stated, Stands}
use Rattle.lending.specs.declared.Mended.{Mended}
use Rattle.lending.specs.Mended.{TurnsGive, MendAsks, MendGives}

module _ {points : List Float} {faces : List ℕ} {ps : List Float} {xs os w : List ℕ} (a : MendAsks points faces ps xs os w) where
  -- how many points and faces are given
  abbrev P : ℕ
  P = length points / 3

  abbrev n : ℕ
  n = length faces / 3

  -- the given lists are whole
  whole_points : take (3 * P) points ≡ points
  whole_points = take_all (3 * P) points (omega (arith, a.input.whole))

  -- and so are the faces
  whole_faces : take (3 * n) faces ≡ faces
  whole_faces = take_all (3 * n) faces (omega (arith, a.input.faces_fine.whole))

  -- both lists may be copied
  pub copies_points : RowAsks points (3 * P) ps
  copies_points = record { from_fit = omega arith; to_fit = omega (arith, a.room_points) }

  -- the faces too
  pub copies_faces : RowAsks faces (3 * n) xs
  copies_faces = record { from_fit = omega arith; to_fit = omega (arith, a.room_faces) }

  -- the faces may be numbered
  pub numbers_faces : (n ≤ length os) × (n < 2 ^ 32)
  numbers_faces = (a.room_origins, omega (arith, a.input.faces_fine.few))

  module _ {ps₁ : List Float} (cp : RowGives nan points (3 * P) ps ps₁) {xs₁ : List ℕ} (cf : RowGives 0 faces (3 * n) xs xs₁)
      {os₁ : List ℕ} (cn : Only 0 n os os₁ × Holds 0 n (λ (i : ℕ). i) os₁) where
    -- the lists that are copied
    abbrev given : Lists
    given = lists ps₁ P xs₁ os₁ n w

    -- they stand as the passes ask
    pub turns_ask : Stands (stated given) given
    turns_ask =
        let f = a.input.faces_fine in
        let lp = cp.only.long in
        let lf = cf.only.long in
        let lo = cn.0.long in
        record {
          stand = record {
            points = f.points;
            few = f.few;
            fit = omega (arith, a.room_faces);
            inside =
                λ i h.
                let e : get_or xs₁ i 0 ≡ get_or faces i 0 = sym (get_or-take (3 * n) xs₁ i 0 h) ∙ ap (λ l. get_or l i 0) cf.copied ∙ get_or-take (3 * n) faces i 0 h in
                rw e (f.below i (omega arith));
            room = a.room_work;
          };
          own = omega (arith, a.room_origins);
          room = omega (arith, a.room_points);
        }

    -- the origins are the places
    own_places : take n os₁ ≡ origins (faces_of faces)
    unfolding face
    own_places =
        let l : length (faces_of faces) ≡ n = length_faces faces in
        let k : length (take n os₁) ≡ n = length-take-le n os₁ (omega (arith, a.room_origins, cn.0.long)) in
        ext_get_or 0 (take n os₁) (origins (faces_of faces)) (k ∙ sym (length-map (faces_of faces) (λ f. f.origin) ∙ l))
        (λ i h.
        let b : i < n = omega (arith, k) in
        let at : i < length (faces_of faces) = omega (arith, l) in
        get_or-take n os₁ i 0 b ∙ (rw zero-add at (cn.1.each i b))
        ∙ sym (get_or_map_in (λ f. f.origin) (faces_of faces) i (record { a = 0; b = 0; c = 0; origin = 0 }) 0 at ∙ numbered faces i at))

    -- so the faces are the given ones, each its own origin
    faces_given : carried xs₁ os₁ n ≡ faces_of faces
    faces_given = with_are (faces_of faces) (take (3 * n) xs₁) (take n os₁) (cf.copied ∙ whole_faces ∙ sym (flat_faces_back faces a.input.faces_fine.whole)) own_places

    -- at first the state is the rules' start
    first_state : state_in given (replicate report_counts 0) ≡ start (points_of points) (faces_of faces)
    unfolding start
    first_state =
        ap₂ (λ qs fs. record { points = points_of qs; faces = fs; report = replicate report_counts 0 }) (cp.copied ∙ whole_points) faces_given

    -- the whole repair stands in the rooms
    pub mend_done : {s : Float} {o : ℕ} {m' : Lists} {r : Mended} → TurnsGive s o given m' r → MendGives points faces s o ps xs os w m' r
    unfolding repaired
    mend_done {s = s} {o = o} g =
        record {
          state = g.state ∙ ap (passes s o) first_state;
          few = g.few;
          points_fit = g.points_fit;
          faces_fit = g.faces_fit;
          only_points = only_both (only_more (omega arith) (omega arith) cp.only) g.only_points;
          only_faces = only_both cf.only g.only_faces;
          only_origins = only_both cn.0 g.only_origins;
          only_work = g.only_work;
        }
