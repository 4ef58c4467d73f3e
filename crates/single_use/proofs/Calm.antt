-- Where each directed edge is used at most once, neighbours agree: pass 4's walk changes no face and marks no component, and no face leaves then.
-- Assumes nothing.
use mathlib.Core.Path.{◌≡◌, refl, sym, subst, ◌∙◌}
use mathlib.Core.Bool.{Bool, true, false, not, ◌||◌, cond, or-false}
use mathlib.Core.List.Memᴰ
use mathlib.Core.List.{List, [], ◌∷◌, map, Memᴰ}
use Prim.Native.Nat.{ℕ, zero, suc, ◌<◌}
use lib.Dec.{T, eqb, T_not}
use borrow.Author.Tests.{eq-eqb}
use lib.ListN.{length, get_or, replicate}
use Rattle.rules.specs.Lists.{below, filter, any, through}
use Rattle.rules.specs.Mesh.{Face, face}
use Rattle.rules.specs.Steps.{Step, steps, opposite, edge, same, walks, entries, users, walkers}
use Rattle.rules.specs.Pass4.{Walk, Oriented, remark, visit, meet, across, popped, run, started, component, closed, begin, oriented}
use Rattle.rule_laws.proofs.Rising.{All, all_imp, all_filter, below_all}
use Rattle.rule_laws.proofs.Members.{any_elim, any_intro, all_members, in_all, mem_below, mem_each, mem_filter}
use Rattle.rule_laws.proofs.Counting.{count_all, only_one}
use Rattle.rule_laws.proofs.Once.{Once}
use Rattle.rule_laws.proofs.TwoUsers.{eq_same}
use Rattle.orienting.proofs.Users.{users_walk}

-- a state keeps a property that each step with such an element keeps
through_all : {A B : Type 0} (P : B → Type 0) (Q : A → Type 0) (f : B → A → B) → ((s : B) (x : A) → P s → Q x → P (f s x)) → (xs : List A) (s : B) → All Q xs → P s → P (through f s xs)
unfolding through
through_all P Q f h [] s a p = p
through_all P Q f h (x ∷ xs) s a p = through_all P Q f h xs (f s x) a.1 (h s x p a.0)

module _ (fs : List Face) (once : Once fs) where
  -- a face that makes a step is among its walkers
  walker_in : (d : Step) (i : ℕ) → i < length fs → T (walks (face fs i) d) → Memᴰ i (walkers fs d)
  unfolding walkers entries walks
  walker_in d i h t =
      let w = any_elim (same d) (λ s. Memᴰ s (steps (face fs i))) (steps (face fs i)) (all_members (steps (face fs i))) t in
      Memᴰ.map (λ n. n.by)
      (mem_filter (λ n. same d n.along) (record { by = i; along = w.0 }) (entries fs)
      (mem_each (λ j. map (λ s. record { by = j; along = s }) (steps (face fs j))) i (record { by = i; along = w.0 }) (below (length fs)) (mem_below i (length fs) h) (Memᴰ.map (λ z. record { by = i; along = z }) w.1))
      w.2)

  -- two faces that make one step are one
  one_walker : (d : Step) (i j : ℕ) → i < length fs → j < length fs → T (walks (face fs i) d) → T (walks (face fs j) d) → i ≡ j
  one_walker d i j hi hj ti tj = only_one (λ n. true) i j (walkers fs d) (rw (count_all true (walkers fs d)) (once d)) (walker_in d i hi ti) (walker_in d j hj tj) tt tt

  -- the other users of an edge agree with a step along it
  agree : (i : ℕ) (s : Step) → i < length fs → T (walks (face fs i) s) → All (λ n. (n < length fs) × (walks (face fs n) (opposite s) ≡ true)) (filter (λ n. not (eqb n i)) (users fs (edge s)))
  agree i s h t =
      all_imp (λ n. ((n < length fs) × ((walks (face fs n) s || walks (face fs n) (opposite s)) ≡ true)) × T (not (eqb n i)))
      (λ n. (n < length fs) × (walks (face fs n) (opposite s) ≡ true))
      (λ n a. (a.0.0, go n (walks (face fs n) s) (walks (face fs n) (opposite s)) refl a.0.0 a.0.1 a.1))
      (filter (λ n. not (eqb n i)) (users fs (edge s)))
      (all_filter (λ n. (n < length fs) × ((walks (face fs n) s || walks (face fs n) (opposite s)) ≡ true)) (λ n. not (eqb n i)) (users fs (edge s)) (users_walk fs s))
    where
      go : (n : ℕ) (x y : Bool) → walks (face fs n) s ≡ x → n < length fs → (x || y) ≡ true → T (not (eqb n i)) → y ≡ true
      go n true y e l o k = absurd (T_not (eqb n i) k (subst T (sym (eq-eqb n i (one_walker s n i l h (subst T (sym e) tt) t))) tt))
      go n false y e l o k = o

  -- a walk that has changed nothing
  record Same (w : Walk) : Type 0 where
    faces : w.faces ≡ fs
    exchanges : w.exchanges ≡ 0
    mark : w.mark ≡ false
    stack : All (λ i. i < length fs) w.stack

  -- a neighbour that agrees is met
  meet_same : (s : Step) (w : Walk) (n : ℕ) → Same w → (n < length fs) × (walks (face fs n) (opposite s) ≡ true) → Same (meet s w n)
  unfolding meet remark visit
  meet_same s w n k a = go (get_or w.visited n false) (walks (face w.faces n) (opposite s)) (rw k.faces a.1)
    where
      go : (b c : Bool) → c ≡ true → Same (cond b (remark c w) (visit c n w))
      go true true e = record { faces = k.faces; exchanges = k.exchanges; mark = or-false w.mark ∙ k.mark; stack = k.stack }
      go false true e = record { faces = k.faces; exchanges = k.exchanges; mark = k.mark; stack = (a.0, k.stack) }
      go b false e = absurd (subst T (sym e) tt)

  -- a face crosses by a step that it makes
  across_same : (i : ℕ) (w : Walk) (s : Step) → i < length fs → Same w → T (walks (face fs i) s) → Same (across i w s)
  unfolding across
  across_same i w s h k t =
      through_all Same (λ n. (n < length fs) × (walks (face fs n) (opposite s) ≡ true)) (meet s) (λ v n. meet_same s v n)
      (filter (λ n. not (eqb n i)) (users w.faces (edge s))) w (rw k.faces (agree i s h t)) k

  -- a face makes its own steps
  own_steps : (f : Face) → All (λ s. T (walks f s)) (steps f)
  unfolding walks
  own_steps f = in_all (λ s. T (any (same s) (steps f))) (steps f) (λ s m. any_intro (same s) s (steps f) m (eq_same s s refl refl))

  -- all faces from the stack
  run_same : (n : ℕ) (stack : List ℕ) (w : Walk) → All (λ i. i < length fs) stack → Same w → Same (run n stack w)
  unfolding run popped
  run_same zero stack w a k = k
  run_same (suc n) [] w a k = k
  run_same (suc n) (i ∷ rest) w a k =
      let after = through (across i) (popped rest w) (steps (face w.faces i)) in
      let s : Same after =
      through_all Same (λ s. T (walks (face fs i) s)) (across i) (λ v s p t. across_same i v s a.0 p t) (steps (face w.faces i)) (popped rest w)
      (rw k.faces (own_steps (face fs i))) (record { faces = k.faces; exchanges = k.exchanges; mark = k.mark; stack = a.1 }) in
      run_same n after.stack after s.stack s

  -- nothing is changed or marked so far
  record Calm (o : Oriented) : Type 0 where
    walk : Same o.walk
    marks : o.marks ≡ 0

  -- a component begun at i
  begin_calm : (o : Oriented) (i : ℕ) → Calm o → i < length fs → Calm (begin o i)
  unfolding begin closed component started
  begin_calm o i c h =
      go (get_or o.walk.visited i false)
      (run_same (length o.walk.faces) (i ∷ []) (started i o.walk) (h, tt) (record { faces = c.walk.faces; exchanges = c.walk.exchanges; mark = refl; stack = (h, tt) }))
    where
      go : (b : Bool) → Same (component o.walk i) → Calm (cond b o (closed o.marks (component o.walk i)))
      go true s = c
      go false s = record { walk = s; marks = rw s.mark c.marks }

  -- the whole walk
  calm : Calm (oriented fs)
  unfolding oriented
  calm =
      through_all Calm (λ i. i < length fs) begin (λ o i. begin_calm o i) (below (length fs))
      (record {
        walk = record { faces = fs; visited = replicate (length fs) false; stack = []; exchanges = 0; mark = false };
        marks = 0;
      })
      (below_all (length fs)) (record { walk = record { faces = refl; exchanges = refl; mark = refl; stack = tt }; marks = refl })

  -- the faces stay as they are
  pub same_faces : (oriented fs).walk.faces ≡ fs
  same_faces = calm.walk.faces

  -- none is exchanged
  pub no_exchanges : (oriented fs).walk.exchanges ≡ 0
  no_exchanges = calm.walk.exchanges

  -- no component is marked
  pub no_marks : (oriented fs).marks ≡ 0
  no_marks = calm.marks
