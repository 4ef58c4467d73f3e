-- Pass 4 exchanges each face at most once, and marks at most one component for each face: a face is visited once. Assumes nothing.
use mathlib.Core.Path.{◌≡◌, refl, ap, ◌∙◌}
use mathlib.Core.Bool.{Bool, true, false, not, cond}
use mathlib.Core.List.{List, [], ◌∷◌, map}
use Prim.Native.Nat.{ℕ, zero, suc, ◌+◌, ◌≤◌, ◌<◌}
use native.Mathlib.Nat.{le_of_suc-le-suc, not-suc-le-zero}
use native.Mathlib.Omega.{arith}
use lib.Dec.{eqb}
use lib.ListN.{length, get_or, set, replicate, length-set, length-replicate}
use Rattle.rules.specs.Lists.{below, filter, count, through}
use Rattle.rules.specs.Mesh.{Face, face, exchanged}
use Rattle.rules.specs.Steps.{Step, Entry, steps, edge, opposite, same, walks, entries, users}
use Rattle.rules.specs.Pass4.{Walk, remark, visit, meet, across, popped, run, Oriented, started, component, closed, begin, oriented}
use Rattle.rule_laws.proofs.Lists.{through_keeps, through_last}
use Rattle.rule_laws.proofs.Rising.{All, all_imp, all_filter, all_map, all_each, below_all}

-- ---- the users of an edge are faces

entries_by : (fs : List Face) → All (λ (n : Entry). n.by < length fs) (entries fs)
unfolding entries
entries_by fs =
    all_each (λ (n : Entry). n.by < length fs) (λ i. map (λ s. record { by = i; along = s }) (steps (face fs i))) (below (length fs))
    (all_imp (λ i. i < length fs) (λ i. All (λ (n : Entry). n.by < length fs) (map (λ s. record { by = i; along = s }) (steps (face fs i)))) (λ i h. (h, (h, (h, tt)))) (below (length fs)) (below_all (length fs)))

users_below : (fs : List Face) (e : Step) → All (λ i. i < length fs) (users fs e)
unfolding users
users_below fs e =
    all_map (λ i. i < length fs) (λ (n : Entry). n.by) (filter (λ n. same e (edge n.along)) (entries fs))
    (all_imp _ (λ (n : Entry). n.by < length fs) (λ n h. h.0) (filter (λ n. same e (edge n.along)) (entries fs)) (all_filter (λ (n : Entry). n.by < length fs) (λ n. same e (edge n.along)) (entries fs) (entries_by fs)))

-- a state keeps what each step over elements with a property keeps
through_all : {A B : Type 0} (P : B → Type 0) (Q : A → Type 0) (f : B → A → B) → ((s : B) (x : A) → Q x → P s → P (f s x)) → (xs : List A) → All Q xs → (s : B) → P s → P (through f s xs)
unfolding through
through_all P Q f h [] a s p = p
through_all P Q f h (x ∷ xs) a s p = through_all P Q f h xs a.1 (f s x) (h s x a.0 p)

-- ---- how many are not visited

-- one that is not visited yet is one less afterwards
visited_one : (vs : List Bool) (n : ℕ) → n < length vs → get_or vs n false ≡ false → suc (count not (set vs n true)) ≡ count not vs
unfolding count filter
visited_one [] n h e = absurd (not-suc-le-zero h)
visited_one (v ∷ vs) zero h e = rw e refl
visited_one (true ∷ vs) (suc n) h e = visited_one vs n (le_of_suc-le-suc h) e
visited_one (false ∷ vs) (suc n) h e = ap suc (visited_one vs n (le_of_suc-le-suc h) e)

-- in any case no more are unvisited
visited_less : (vs : List Bool) (n : ℕ) → count not (set vs n true) ≤ count not vs
unfolding count filter
visited_less [] n = omega arith
visited_less (true ∷ vs) zero = omega arith
visited_less (false ∷ vs) zero = omega arith
visited_less (true ∷ vs) (suc n) = visited_less vs n
visited_less (false ∷ vs) (suc n) = let r = visited_less vs n in omega arith

-- before the walk none is visited
unvisited_all : (n : ℕ) → count not (replicate n false) ≡ n
unfolding count filter
unvisited_all zero = refl
unvisited_all (suc n) = ap suc (unvisited_all n)

-- ---- the walk

-- each exchange is paid by a face that was not visited before
record Paid (F : ℕ) (w : Walk) : Type 0 where
  seen : length w.visited ≡ F
  all : length w.faces ≡ F
  paid : w.exchanges + count not w.visited ≤ F

module _ {F : ℕ} where
  -- a neighbour
  meet_paid : (s : Step) (w : Walk) (n : ℕ) → n < F → Paid F w → Paid F (meet s w n)
  unfolding meet remark visit
  meet_paid s w n h p = go (get_or w.visited n false) refl (walks (face w.faces n) (opposite s))
    where
      go : (b : Bool) → get_or w.visited n false ≡ b → (a : Bool) → Paid F (cond b (remark a w) (visit a n w))
      go true e a = record { seen = p.seen; all = p.all; paid = p.paid }
      go false e true =
          let o = visited_one w.visited n (omega (arith, p.seen)) e in
          record { seen = length-set w.visited n true ∙ p.seen; all = p.all; paid = omega (arith, p.paid) }
      go false e false =
          let o = visited_one w.visited n (omega (arith, p.seen)) e in
          record { seen = length-set w.visited n true ∙ p.seen; all = length-set w.faces n (exchanged (face w.faces n)) ∙ p.all; paid = omega (arith, p.paid) }

  -- one step's neighbours
  across_paid : (i : ℕ) (w : Walk) (s : Step) → Paid F w → Paid F (across i w s)
  unfolding across
  across_paid i w s p =
      let us = filter (λ n. not (eqb n i)) (users w.faces (edge s)) in
      through_all (Paid F) (λ n. n < F) (meet s) (λ x n l q. meet_paid s x n l q) us
      (all_imp _ (λ n. n < F) (λ n l. omega (arith, p.all, l.0)) us (all_filter (λ n. n < length w.faces) (λ n. not (eqb n i)) (users w.faces (edge s)) (users_below w.faces (edge s)))) w p

  -- face after face
  run_paid : (n : ℕ) (stack : List ℕ) (w : Walk) → Paid F w → Paid F (run n stack w)
  unfolding run popped
  run_paid zero stack w p = p
  run_paid (suc n) [] w p = p
  run_paid (suc n) (i ∷ rest) w p =
      let a = through_keeps (Paid F) (across i) (λ x s q. across_paid i x s q) (steps (face w.faces i)) (popped rest w) (record { seen = p.seen; all = p.all; paid = p.paid }) in
      run_paid n _ _ a

  -- a component
  component_paid : (w : Walk) (i : ℕ) → Paid F w → Paid F (component w i)
  unfolding component started
  component_paid w i p =
      run_paid (length w.faces) (i ∷ []) (started i w)
      (record { seen = length-set w.visited i true ∙ p.seen; all = p.all; paid = omega (arith, p.paid, visited_less w.visited i) })

-- after the starts below k: what is exchanged is paid, and at most k components are marked
record Walked (F k : ℕ) (o : Oriented) : Type 0 where
  walk : Paid F o.walk
  marks : o.marks ≤ k

-- one start more
begin_walked : {F k : ℕ} (o : Oriented) (i : ℕ) → Walked F k o → Walked F (suc k) (begin o i)
unfolding begin closed
begin_walked {F} {k} o i p = go (get_or o.walk.visited i false)
  where
    one : (b : Bool) (n : ℕ) → n ≤ k → cond b (suc n) n ≤ suc k
    one true n h = omega arith
    one false n h = omega arith

    go : (b : Bool) → Walked F (suc k) (cond b o (closed o.marks (component o.walk i)))
    go true = record { walk = p.walk; marks = omega (arith, p.marks) }
    go false = record { walk = component_paid o.walk i p.walk; marks = one (component o.walk i).mark o.marks p.marks }

-- all starts
starts_walked : {F : ℕ} (o : Oriented) → Walked F 0 o → (k : ℕ) → Walked F k (through begin o (below k))
starts_walked o p zero = unfold through below in p
starts_walked o p (suc k) = rw (through_last begin o k) (begin_walked (through begin o (below k)) k (starts_walked o p k))

-- at most one exchange and one mark for each face
pub few_exchanges : (fs : List Face) → ((oriented fs).walk.exchanges ≤ length fs) × ((oriented fs).marks ≤ length fs)
few_exchanges fs =
    let r : Walked (length fs) (length fs) (oriented fs) = unfold oriented in (starts_walked _ (record { walk = record { seen = length-replicate (length fs) false; all = refl; paid = omega (arith, unvisited_all (length fs)) }; marks = omega arith }) (length fs)) in
    (omega (arith, r.walk.paid), r.marks)
