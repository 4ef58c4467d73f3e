-- The walk's bounds: what stands on the stack is visited, and each face is pushed and exchanged at most once. Assumes nothing.
use mathlib.Core.Path.{◌≡◌, refl, ap, ◌∙◌}
use mathlib.Core.Bool.{Bool, true, false, not, cond}
use mathlib.Core.List.{List, [], ◌∷◌}
use Prim.Native.Nat.{ℕ, zero, suc, ◌+◌, ◌≤◌, ◌<◌}
use native.Mathlib.Nat.{le_of_suc-le-suc, not-suc-le-zero}
use native.Mathlib.Omega.{arith}
use lib.ListN.{length, get_or, set, length-set}
use lib.Seq.{get_or-set_same, get_or-set_other}
use Rattle.rules.specs.Lists.{filter, count, through}
use Rattle.rules.specs.Mesh.{face, exchanged}
use Rattle.rules.specs.Steps.{Step}
use Rattle.rules.specs.Pass4.{Walk, remark, visit, popped, started}
use Rattle.rule_laws.proofs.Rising.{All, all_imp}
use Rattle.orienting.specs.Reaching.{agrees, reach}
use Rattle.orienting.proofs.Reached.{not_both}

-- how many faces are unvisited
abbrev pub unseen : Walk → ℕ
unseen w = count not w.visited

-- one fewer when one is visited
unseen_set : (vs : List Bool) (n : ℕ) → n < length vs → get_or vs n false ≡ false → count not vs ≡ suc (count not (set vs n true))
unfolding count filter
unseen_set [] n h e = absurd (not-suc-le-zero h)
unseen_set (v ∷ vs) zero h e = rw e
unseen_set (true ∷ vs) (suc n) h e = unseen_set vs n (le_of_suc-le-suc h) e
unseen_set (false ∷ vs) (suc n) h e = ap suc (unseen_set vs n (le_of_suc-le-suc h) e)

-- a face of n that is visited
abbrev pub Seen : ℕ → Walk → ℕ → Type 0
Seen n w i = (i < n) × (get_or w.visited i false ≡ true)

-- a walk over n faces
pub record Sound (n : ℕ) (w : Walk) : Type 0 where
  pub flags : length w.visited ≡ n
  pub whole : length w.faces ≡ n
  pub stacked : All (Seen n w) w.stack
  pub room : length w.stack + unseen w ≤ n
  pub turns : w.exchanges + unseen w ≤ n

module _ {n : ℕ} {w : Walk} (k : Sound n w) where
  -- where a face is unvisited there is room for it
  pub has_room : (i : ℕ) → i < n → get_or w.visited i false ≡ false → (length w.stack < n) × (w.exchanges < n)
  has_room i l e =
      let u = unseen_set w.visited i (omega (arith, k.flags)) e in
      (omega (arith, k.room), omega (arith, k.turns))

  -- a face is visited
  visit_sound : (a : Bool) (i : ℕ) → i < n → get_or w.visited i false ≡ false → Sound n (visit a i w)
  unfolding visit
  visit_sound a i l e =
      let u = unseen_set w.visited i (omega (arith, k.flags)) e in
      record {
        flags = length-set w.visited i true ∙ k.flags;
        whole = go a;
        stacked = ((l, get_or-set_same w.visited i true false (omega (arith, k.flags))), all_imp (Seen n w) (λ j. (j < n) × (get_or (set w.visited i true) j false ≡ true)) still w.stack k.stacked);
        room = omega (arith, k.room);
        turns = turned a;
      }
    where
      go : (a : Bool) → length (cond a w.faces (set w.faces i (exchanged (face w.faces i)))) ≡ n
      go true = k.whole
      go false = length-set w.faces i (exchanged (face w.faces i)) ∙ k.whole

      still : (j : ℕ) → Seen n w j → (j < n) × (get_or (set w.visited i true) j false ≡ true)
      still j s = (s.0, get_or-set_other w.visited i j true false (λ q. not_both s.1 (rw q e)) ∙ s.1)

      turned : (a : Bool) → cond a w.exchanges (suc w.exchanges) + count not (set w.visited i true) ≤ n
      turned true = omega (arith, k.turns, unseen_set w.visited i (omega (arith, k.flags)) e)
      turned false = omega (arith, k.turns, unseen_set w.visited i (omega (arith, k.flags)) e)

  -- a face is reached
  pub reach_sound : (s : Step) (i : ℕ) → i < n → Sound n (reach s w i)
  unfolding reach
  reach_sound s i l = go (get_or w.visited i false) refl
    where
      go : (b : Bool) → get_or w.visited i false ≡ b → Sound n (cond b w (visit (agrees s w i) i w))
      go true e = k
      go false e = visit_sound (agrees s w i) i l e

  -- a mark
  pub remark_sound : (a : Bool) → Sound n (remark a w)
  unfolding remark
  remark_sound a = record { flags = k.flags; whole = k.whole; stacked = k.stacked; room = k.room; turns = k.turns }

  -- the top is taken off
  pub popped_sound : (i : ℕ) (rest : List ℕ) → w.stack ≡ i ∷ rest → Sound n (popped rest w)
  unfolding popped
  popped_sound i rest e =
      let a : All (Seen n w) (i ∷ rest) = rw e at k.stacked in
      let l = ap length e in
      record { flags = k.flags; whole = k.whole; stacked = a.1; room = omega (arith, k.room); turns = k.turns }

  -- a component is begun
  pub started_sound : (i : ℕ) → i < n → get_or w.visited i false ≡ false → Sound n (started i w)
  unfolding started
  started_sound i l e =
      let u = unseen_set w.visited i (omega (arith, k.flags)) e in
      record {
        flags = length-set w.visited i true ∙ k.flags;
        whole = k.whole;
        stacked = ((l, get_or-set_same w.visited i true false (omega (arith, k.flags))), tt);
        room = omega (arith, k.turns);
        turns = omega (arith, k.turns);
      }

-- faces are reached one after the other
pub all_sound : {n : ℕ} (s : Step) (w : Walk) (ms : List ℕ) → All (λ m. m < n) ms → Sound n w → Sound n (through (reach s) w ms)
unfolding through
all_sound s w [] h k = k
all_sound s w (m ∷ ms) h k = all_sound s (reach s w m) ms h.1 (reach_sound k s m h.0)
