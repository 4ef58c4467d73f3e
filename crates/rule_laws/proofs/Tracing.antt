-- Which input face an output face is: for faces that leave or stay in place. Assumes nothing.
use mathlib.Core.Path.{◌≡◌, sym, ap, ◌∙◌, subst}
use mathlib.Core.Logic.{inl, inr}
use mathlib.Core.Bool.{Bool, not}
use mathlib.Core.List.{List, [], ◌∷◌}
use Prim.Native.Nat.{ℕ, ◌<◌}
use native.Mathlib.Omega.{arith}
use lib.ListN.{length, get_or}
use lib.Dec.{T}
use Rattle.rules.specs.Lists.{leave}
use Rattle.rules.specs.Mesh.{Point, Face, face, exchanged}
use Rattle.rule_laws.proofs.Demand.{positions, Lies, Traced}
use Rattle.rule_laws.proofs.Lists.{stay_at, leave_places, get_or_map_in, leave_stay}
use Rattle.rule_laws.proofs.Rising.{all_at, stay_up, stay_all, up_at}

-- what stands beyond the last face
no_face : Face
no_face = record { a = 0; b = 0; c = 0; origin = 0 }

-- a face that is left is the input's at the place that stayed
pub face_left :
    (m : ℕ → Bool) (fs : List Face) (k : ℕ) → k < length (leave m fs)
    → face (leave m fs) k ≡ face fs (get_or (stay_at m (length fs)) k 0)
unfolding face no_face
face_left m fs k h =
    ap (λ l. get_or l k no_face) (leave_places m fs no_face)
    ∙ get_or_map_in (λ i. get_or fs i no_face) (stay_at m (length fs)) k 0 no_face (subst (λ n. k < n) (leave_stay m fs) h)

-- the last two of three exchanged
swapped : List Point → List Point
swapped [] = []
swapped (x ∷ []) = x ∷ []
swapped (x ∷ y ∷ []) = x ∷ y ∷ []
swapped (x ∷ y ∷ z ∷ r) = x ∷ z ∷ y ∷ r

-- a face that lies where a second does lies where a third does; two exchanges undo each other
pub lies_trans :
    (ps₁ : List Point) (f : Face) (ps₂ : List Point) (g : Face) (ps₃ : List Point) (h : Face)
    → Lies ps₁ f ps₂ g → Lies ps₂ g ps₃ h → Lies ps₁ f ps₃ h
unfolding swapped exchanged
lies_trans ps₁ f ps₂ g ps₃ h (inl p) (inl q) = inl (q ∙ p)
lies_trans ps₁ f ps₂ g ps₃ h (inr p) (inl q) = inr (q ∙ p)
lies_trans ps₁ f ps₂ g ps₃ h (inl p) (inr q) = inr (q ∙ ap swapped p)
lies_trans ps₁ f ps₂ g ps₃ h (inr p) (inr q) = inl (q ∙ ap swapped p)

-- ---- meshes traced to an input

-- each face of a call's list is its own origin
abbrev pub Numbered : List Face → Type 0
Numbered fs = (i : ℕ) → i < length fs → (face fs i).origin ≡ i

-- the input is traced to itself
pub start_traced : (ps : List Point) (fs : List Face) → Numbered fs → Traced ps fs ps fs
start_traced ps fs num =
    record {
      rising = λ k l kl h.
          let hk : k < length fs = omega arith in
          rw (num k hk, num l h) kl;
      inputs = λ k h. rw (num k h) h;
      places = λ k h. inl (ap (λ i. positions ps (face fs i)) (sym (num k h)));
    }

module _ (ps : List Point) (fs : List Face) (ps' : List Point) (gs : List Face) (t : Traced ps fs ps' gs) where
  -- what is left is traced
  pub leave_traced : (m : ℕ → Bool) → Traced ps fs ps' (leave m gs)
  leave_traced m =
      record {
        rising = λ k l kl h.
            let hk : k < length (leave m gs) = omega arith in
            rw (face_left m gs k hk, face_left m gs l h)
            (t.rising (get_or (stay_at m (length gs)) k 0) (get_or (stay_at m (length gs)) l 0) (up_at 0 (stay_at m (length gs)) k l (stay_up m (length gs)) kl (subst (λ n. l < n) (leave_stay m gs) h)) (stays l h));
        inputs = λ k h. rw (face_left m gs k h) (t.inputs (get_or (stay_at m (length gs)) k 0) (stays k h));
        places = λ k h. subst (λ f. Lies ps (face fs f.origin) ps' f) (sym (face_left m gs k h)) (t.places (get_or (stay_at m (length gs)) k 0) (stays k h));
      }
    where
      stays : (k : ℕ) → k < length (leave m gs) → get_or (stay_at m (length gs)) k 0 < length gs
      stays k h = (all_at (λ i. (i < length gs) × T (not (m i))) (stay_at m (length gs)) 0 k (stay_all m (length gs)) (subst (λ n. k < n) (leave_stay m gs) h)).0

  -- faces that stay in place, with their origins, each lying where it lay or exchanged, are traced
  pub in_place :
      (ps'' : List Point) (hs : List Face) → length hs ≡ length gs → ((i : ℕ) → i < length gs → (face hs i).origin ≡ (face gs i).origin)
      → ((i : ℕ) → i < length gs → Lies ps' (face gs i) ps'' (face hs i)) → Traced ps fs ps'' hs
  in_place ps'' hs e o h =
      record {
        rising = λ k l kl q.
            let hl : l < length gs = rw e at q in
            let hk : k < length gs = omega arith in
            rw (o k hk, o l hl) (t.rising k l kl hl);
        inputs = λ k q.
            let hk : k < length gs = rw e at q in
            rw (o k hk) (t.inputs k hk);
        places = λ k q.
            let hk : k < length gs = rw e at q in
            subst (λ n. Lies ps (face fs n) ps'' (face hs k)) (sym (o k hk))
            (lies_trans ps (face fs (face gs k).origin) ps' (face gs k) ps'' (face hs k) (t.places k hk) (h k hk));
      }
