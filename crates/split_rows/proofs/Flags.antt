-- The flags of the unused points, written to a part of the work room that is lent. Assumes nothing.
use mathlib.Core.Path.{◌≡◌, sym, ap, ◌∙◌, subst}
use mathlib.Core.Bool.{Bool, not, cond}
use mathlib.Core.List.{List}
use Prim.Native.Nat.{ℕ, ◌+◌, ◌*◌, ◌-◌, ◌≤◌, ◌<◌}
use native.Mathlib.Nat.{zero-add}
use native.Mathlib.Omega.{arith}
use lib.ListN.{length, get_or, take, get_or-append}
use lib.Seq.{get_or-take, get_or-append-add, length-take-le}
use Rattle.rows.specs.Region.{Only, Out, Out.below, Out.above}
use Rattle.rows.proofs.Splicing.{lent, lent_long, back, only_back}
use Rattle.rules.specs.Mesh.{Face, faces_of, flat_faces}
use Rattle.rules.specs.Pass6.{marked6}
use Rattle.rule_laws.proofs.Relabel.{Alike, flat_alike, used_alike}
use Rattle.leaving.specs.Pass.{standing}
use Rattle.drop_isolated_vertices.specs.Unused.{UseAsks, UseGives}
use Rattle.split_rows.specs.Rows.{FlagsAsks, FlagsGives}

-- faces that lie flat in the same list use the same points
marked_flat : (fs : List Face) (xs : List ℕ) (n : ℕ) → flat_faces fs ≡ take (3 * n) xs → (v : ℕ) → marked6 (standing xs n) v ≡ marked6 fs v
unfolding marked6
marked_flat fs xs n e v = ap not (used_alike (standing xs n) fs (subst (λ l. Alike (faces_of l) fs) e (flat_alike fs)) v)

module _ {xs : List ℕ} {n P : ℕ} {w : List ℕ} {unused : ℕ} (p : FlagsAsks xs n P w unused) where
  -- what is lent is within the room
  pub fit : unused + (length w - unused) ≤ length w
  fit = omega (arith, p.room)

  -- the part
  abbrev part_of : List ℕ
  part_of = lent 0 w unused (length w - unused) fit

  -- it has room for the flags
  pub mark_ok : UseAsks xs n P part_of
  mark_ok = record { fit = p.fit; inside = p.inside; room = omega (arith, p.room, lent_long 0 w unused (length w - unused) fit) }

  module _ {ys : List ℕ} (g : UseGives xs n P part_of ys) where
    -- the part is as long as the flags
    pub few : P ≤ length w - unused
    few = omega (arith, p.room)

    -- the room with the part given back
    abbrev after : List ℕ
    after = back 0 w unused (length w - unused) fit g.only few

    front_long : length (take unused w) ≡ unused
    front_long = length-take-le unused w (omega (arith, p.room))

    ys_long : length ys ≡ length w - unused
    ys_long = g.only.long ∙ lent_long 0 w unused (length w - unused) fit

    -- what is past the flags is as it was
    past : Only 0 (unused + P) w after
    past = only_back 0 w unused (length w - unused) fit g.only few

    -- an entry before the part
    in_front : (j : ℕ) → j < unused → get_or after j 0 ≡ get_or w j 0
    in_front j h = get_or-append (take unused w) _ 0 j (omega (arith, front_long)) ∙ get_or-take unused w j 0 h

    -- an entry of the flags
    in_part : (i : ℕ) → i < P → get_or after (unused + i) 0 ≡ get_or ys i 0
    in_part i h =
        (let e : unused + i ≡ length (take unused w) + i = omega (arith, front_long) in ap (λ k. get_or after k 0) e)
        ∙ get_or-append-add (take unused w) _ i 0
        ∙ get_or-append ys _ 0 i (omega (arith, ys_long, few))

    only : Only unused P w after
    only = record { long = past.long; same = same }
      where
        same : (j : ℕ) → Out unused P j → get_or after j 0 ≡ get_or w j 0
        same j (below l) = in_front j l
        same j (above l) = past.same j (above (omega arith))

    pub done : FlagsGives xs n P w unused after
    done =
        record {
          only = only;
          flags = λ fs e. record {
            each = λ i h.
                in_part i h
                ∙ ap (λ k. get_or ys k 0) (sym (zero-add i))
                ∙ g.flags.each i h
                ∙ ap (λ (b : Bool). cond b 1 0) (marked_flat fs xs n e i);
          };
        }
