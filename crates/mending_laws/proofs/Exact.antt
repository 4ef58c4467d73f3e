-- The walk of pass 4 counts exactly the faces whose corner 1 is another one afterwards: no face is exchanged twice, and one whose last two corners are equal
-- never is. Assumes nothing.
use mathlib.Core.Path.{◌≡◌, refl, sym, ap, ◌∙◌, subst}
use mathlib.Core.Logic.{◌⊎◌, inl, inr, ◌≢◌}
use mathlib.Core.Bool.{Bool, true, false, not, cond, true≢false}
use mathlib.Core.List.{List, [], ◌∷◌, map, Memᴰ}
use Prim.Native.Nat.{ℕ, zero, suc, ◌+◌, ◌<◌}
use native.Mathlib.Nat.{not-suc-le-zero}
use native.Mathlib.Omega.{arith}
use native.Mathlib.Decide.{ℕ_discrete}
use borrow.Author.Tests.{eq-eqb, ne_eqb}
use lib.Dec.{T, eqb}
use lib.Ieee.Bits.{is_true}
use lib.ListN.{length, get_or, set, replicate, length-set, length-replicate}
use lib.Seq.{get_or-set_same, get_or-set_other}
use Rattle.rules.specs.Lists.{below, filter, count, any, through}
use Rattle.rules.specs.Mesh.{Face, face, exchanged}
use Rattle.rules.specs.Steps.{Step, Entry, step, steps, edge, opposite, same, walks, entries, users}
use Rattle.rules.specs.Pass4.{Walk, remark, visit, meet, across, popped, run, Oriented, started, component, closed, begin, oriented}
use Rattle.rules.specs.Mending.{turned}
use Rattle.rule_laws.proofs.Lists.{count_below, through_keeps}
use Rattle.rule_laws.proofs.Rising.{All, all_imp, all_filter, all_map, all_each, below_all}
use Rattle.rule_laws.proofs.Members.{any_intro, any_mem, mem_three}
use Rattle.rule_laws.proofs.Counting.{count_all, count_below_agree}
use Rattle.rule_laws.proofs.Once.{same_is}
use Rattle.rule_laws.proofs.TwoUsers.{eq_same}
use Rattle.rule_laws.proofs.InOut.{either_way}
use Rattle.rule_laws.proofs.Turning.{OrExchanged}
use Rattle.mending_laws.proofs.Exchanging.{exchanged_same}

-- ---- the users of an edge have it

-- one of the face's steps goes along the edge
abbrev Uses : Face → Step → Type 0
Uses f e = T (any (λ t. same e (edge t)) (steps f))

-- an entry is a step of its face
entries_of : (fs : List Face) → All (λ (n : Entry). (n.by < length fs) × Memᴰ n.along (steps (face fs n.by))) (entries fs)
unfolding entries
entries_of fs =
    all_each (λ (n : Entry). (n.by < length fs) × Memᴰ n.along (steps (face fs n.by))) (λ i. map (λ s. record { by = i; along = s }) (steps (face fs i))) (below (length fs))
    (all_imp (λ i. i < length fs) (λ i. All (λ (n : Entry). (n.by < length fs) × Memᴰ n.along (steps (face fs n.by))) (map (λ s. record { by = i; along = s }) (steps (face fs i))))
    (λ i h. ((h, Memᴰ.head refl), ((h, Memᴰ.tail (Memᴰ.head refl)), ((h, Memᴰ.tail (Memᴰ.tail (Memᴰ.head refl))), tt)))) (below (length fs)) (below_all (length fs)))

-- a user is a face that has the edge
users_use : (fs : List Face) (e : Step) → All (λ i. (i < length fs) × Uses (face fs i) e) (users fs e)
unfolding users
users_use fs e =
    all_map (λ i. (i < length fs) × Uses (face fs i) e) (λ (n : Entry). n.by) (filter (λ n. same e (edge n.along)) (entries fs))
    (all_imp _ (λ (n : Entry). (n.by < length fs) × Uses (face fs n.by) e)
    (λ n h. (h.0.0, any_intro (λ t. same e (edge t)) n.along (steps (face fs n.by)) h.0.1 h.1))
    (filter (λ n. same e (edge n.along)) (entries fs)) (all_filter (λ (n : Entry). (n.by < length fs) × Memᴰ n.along (steps (face fs n.by))) (λ n. same e (edge n.along)) (entries fs) (entries_of fs)))

-- a face whose last two corners are equal walks its edges both ways, so it agrees with every neighbour
both_ways_walked : (f : Face) (s : Step) → f.b ≡ f.c → Uses f (edge s) → T (walks f (opposite s))
unfolding walks
both_ways_walked f s e u =
    let w = any_mem (λ t. same (edge s) (edge t)) (steps f) u in
    go w.0 w.1 (either_way s w.0 w.2)
  where
    has_step : (d : Step) → Memᴰ d (steps f) → T (any (same d) (steps f))
    has_step d m = any_intro (same d) d (steps f) m (eq_same d d refl refl)

    back : (t : Step) → (t ≡ step f.a f.b) ⊎ ((t ≡ step f.b f.c) ⊎ (t ≡ step f.c f.a)) → T (any (same (opposite t)) (steps f))
    back t (inl q) = subst (λ d. T (any (same (opposite d)) (steps f))) (sym q) (unfold opposite in (subst (λ x. T (any (same (step x f.a)) (steps f))) (sym e) (has_step (step f.c f.a) (Memᴰ.tail (Memᴰ.tail (Memᴰ.head refl))))))
    back t (inr (inl q)) =
        subst (λ d. T (any (same (opposite d)) (steps f))) (sym q)
        (unfold opposite in (subst (λ (d : Step). T (any (same d) (steps f))) (λ i. step (e i) (sym e i)) (has_step (step f.b f.c) (Memᴰ.tail (Memᴰ.head refl)))))
    back t (inr (inr q)) = subst (λ d. T (any (same (opposite d)) (steps f))) (sym q) (unfold opposite in (subst (λ x. T (any (same (step f.a x)) (steps f))) e (has_step (step f.a f.b) (Memᴰ.head refl))))

    go : (t : Step) → Memᴰ t (steps f) → T (same s t) ⊎ T (same (opposite s) t) → T (any (same (opposite s)) (steps f))
    go t m (inr h) = any_intro (same (opposite s)) t (steps f) m h
    go t m (inl h) = subst (λ d. T (any (same (opposite d)) (steps f))) (sym (same_is s t h)) (back t (mem_three m))

-- ---- one mark more

-- a test that changes at n alone counts one more
count_flip : (p q : ℕ → Bool) (n : ℕ) → ((i : ℕ) → i ≢ n → q i ≡ p i) → p n ≡ false → q n ≡ true → (F : ℕ) → n < F → count q (below F) ≡ suc (count p (below F))
count_flip p q n other low high zero h = absurd (not-suc-le-zero h)
count_flip p q n other low high (suc F) h = count_below q F ∙ go (ℕ_discrete n F) (λ l. count_flip p q n other low high F l) ∙ ap suc (sym (count_below p F))
  where
    go : Dec (n ≡ F) → (n < F → count q (below F) ≡ suc (count p (below F))) → count q (below F) + cond (q F) 1 0 ≡ suc (count p (below F) + cond (p F) 1 0)
    go (yes e) r =
        let a : count q (below F) ≡ count p (below F) = count_below_agree q p F (λ i l. other i (λ x. absurd (omega arith))) in
        let b : q F ≡ true = rw e at high in
        let c : p F ≡ false = rw e at low in
        rw (a, b, c) (omega arith)
    go (no e) r =
        let a = r (omega arith) in
        let b : q F ≡ p F = other F (λ x. e (sym x)) in
        rw (a, b) (omega arith)

-- who is not visited after a visit was not before
seen_less : (vs : List Bool) (n j : ℕ) → get_or (set vs n true) j false ≡ false → get_or vs j false ≡ false
seen_less [] n j e = refl
seen_less (v ∷ vs) zero zero e = absurd (true≢false e)
seen_less (v ∷ vs) zero (suc j) e = e
seen_less (v ∷ vs) (suc n) zero e = e
seen_less (v ∷ vs) (suc n) (suc j) e = seen_less vs n j e

-- and is another one
seen_other : (vs : List Bool) (n j : ℕ) → n < length vs → get_or (set vs n true) j false ≡ false → j ≢ n
seen_other vs n j h e q = true≢false (sym (get_or-set_same vs n true false h) ∙ subst (λ i. get_or (set vs n true) i false ≡ false) q e)

-- a face that is set
face_set : (gs : List Face) (n : ℕ) (g : Face) → n < length gs → face (set gs n g) n ≡ g
unfolding face
face_set gs n g h = get_or-set_same gs n g (record { a = 0; b = 0; c = 0; origin = 0 }) h

-- the others
face_other : (gs : List Face) (n i : ℕ) (g : Face) → i ≢ n → face (set gs n g) i ≡ face gs i
unfolding face
face_other gs n i g q = get_or-set_other gs n i g (record { a = 0; b = 0; c = 0; origin = 0 }) q

-- ---- the walk

module _ (fs : List Face) where
  -- a face that is not visited is as it was, every face is as it was or exchanged, and the changed ones are counted
  record Exact (w : Walk) : Type 0 where
    long : length w.faces ≡ length fs
    seen : length w.visited ≡ length fs
    raw : (i : ℕ) → get_or w.visited i false ≡ false → face w.faces i ≡ face fs i
    turn : (i : ℕ) → OrExchanged (face fs i) (face w.faces i)
    told : count (turned fs w.faces) (below (length fs)) ≡ w.exchanges

  -- an exchange
  turn_exact : (w : Walk) (n : ℕ) → n < length fs → get_or w.visited n false ≡ false → (face fs n).b ≢ (face fs n).c → Exact w → Exact (visit false n w)
  unfolding visit
  turn_exact w n h e ne x =
      record {
        long = length-set w.faces n (exchanged (face w.faces n)) ∙ x.long;
        seen = length-set w.visited n true ∙ x.seen;
        raw = λ i q. other i (seen_other w.visited n i (omega (arith, x.seen)) q) ∙ x.raw i (seen_less w.visited n i q);
        turn = λ i. at i (ℕ_discrete i n);
        told =
            count_flip (turned fs w.faces) (turned fs (set w.faces n (exchanged (face w.faces n)))) n
            (λ i q. unfold turned in (ap (λ (g : Face). not (eqb (face fs i).b g.b)) (other i q)))
            (unfold turned in (ap (λ (g : Face). not (eqb (face fs n).b g.b)) (x.raw n e) ∙ ap not (eq-eqb (face fs n).b (face fs n).b refl)))
            (unfold turned in (ap (λ (g : Face). not (eqb (face fs n).b g.b)) here ∙ (unfold exchanged in (ap not (ne_eqb (face fs n).b (face fs n).c ne)))))
            (length fs) h
            ∙ ap suc x.told;
      }
    where
      other : (i : ℕ) → i ≢ n → face (set w.faces n (exchanged (face w.faces n))) i ≡ face w.faces i
      other i q = face_other w.faces n i (exchanged (face w.faces n)) q

      here : face (set w.faces n (exchanged (face w.faces n))) n ≡ exchanged (face fs n)
      here = face_set w.faces n (exchanged (face w.faces n)) (omega (arith, x.long)) ∙ ap exchanged (x.raw n e)

      at : (i : ℕ) → Dec (i ≡ n) → OrExchanged (face fs i) (face (set w.faces n (exchanged (face w.faces n))) i)
      at i (no q) = subst (λ g. OrExchanged (face fs i) g) (sym (other i q)) (x.turn i)
      at i (yes q) = subst (λ j. OrExchanged (face fs j) (face (set w.faces n (exchanged (face w.faces n))) j)) (sym q) (inr here)

  -- a visit without one
  seen_exact : (w : Walk) (n : ℕ) → Exact w → Exact (visit true n w)
  unfolding visit
  seen_exact w n x =
      record { long = x.long; seen = length-set w.visited n true ∙ x.seen; raw = λ i q. x.raw i (seen_less w.visited n i q); turn = x.turn; told = x.told }

  -- a neighbour that agrees if its last two corners are equal
  meet_exact : (s : Step) (w : Walk) (n : ℕ) → (n < length fs) × ((face fs n).b ≡ (face fs n).c → T (walks (face fs n) (opposite s))) → Exact w → Exact (meet s w n)
  unfolding meet remark
  meet_exact s w n h x = go (get_or w.visited n false) refl (walks (face w.faces n) (opposite s)) refl
    where
      go : (b : Bool) → get_or w.visited n false ≡ b → (a : Bool) → walks (face w.faces n) (opposite s) ≡ a → Exact (cond b (remark a w) (visit a n w))
      go true e a q = record { long = x.long; seen = x.seen; raw = x.raw; turn = x.turn; told = x.told }
      go false e true q = seen_exact w n x
      go false e false q =
          turn_exact w n h.0 e
          (λ r. true≢false (sym (is_true (walks (face fs n) (opposite s)) (h.1 r)) ∙ ap (λ (g : Face). walks g (opposite s)) (sym (x.raw n e)) ∙ q)) x

  -- a state keeps what each step over elements with a property keeps
  through_all : (Q : ℕ → Type 0) (f : Walk → ℕ → Walk) → ((w : Walk) (n : ℕ) → Q n → Exact w → Exact (f w n)) → (ns : List ℕ) → All Q ns → (w : Walk) → Exact w → Exact (through f w ns)
  unfolding through
  through_all Q f h [] a w x = x
  through_all Q f h (n ∷ ns) a w x = through_all Q f h ns a.1 (f w n) (h w n a.0 x)

  -- one step's neighbours
  across_exact : (i : ℕ) (w : Walk) (s : Step) → Exact w → Exact (across i w s)
  unfolding across
  across_exact i w s x =
      let us = filter (λ n. not (eqb n i)) (users w.faces (edge s)) in
      through_all (λ n. (n < length fs) × ((face fs n).b ≡ (face fs n).c → T (walks (face fs n) (opposite s)))) (meet s) (λ y n l q. meet_exact s y n l q) us
      (all_imp _ (λ n. (n < length fs) × ((face fs n).b ≡ (face fs n).c → T (walks (face fs n) (opposite s)))) (λ n l. (omega (arith, x.long, l.0.0), λ q. both_ways_walked (face fs n) s q (same_face n q (x.turn n) l.0.1)))
      us (all_filter (λ n. (n < length w.faces) × Uses (face w.faces n) (edge s)) (λ n. not (eqb n i)) (users w.faces (edge s)) (users_use w.faces (edge s)))) w x
    where
      same_face : (n : ℕ) → (face fs n).b ≡ (face fs n).c → OrExchanged (face fs n) (face w.faces n) → Uses (face w.faces n) (edge s) → Uses (face fs n) (edge s)
      same_face n q (inl e) u = subst (λ g. Uses g (edge s)) e u
      same_face n q (inr e) u = subst (λ g. Uses g (edge s)) (e ∙ exchanged_same (face fs n) q) u

  -- face after face
  run_exact : (n : ℕ) (stack : List ℕ) (w : Walk) → Exact w → Exact (run n stack w)
  unfolding run popped
  run_exact zero stack w x = x
  run_exact (suc n) [] w x = x
  run_exact (suc n) (i ∷ rest) w x =
      let a = through_keeps Exact (across i) (λ y s q. across_exact i y s q) (steps (face w.faces i)) (popped rest w) (record { long = x.long; seen = x.seen; raw = x.raw; turn = x.turn; told = x.told }) in
      run_exact n _ _ a

  -- a component begun at i
  begin_exact : (o : Oriented) (i : ℕ) → Exact o.walk → Exact (begin o i).walk
  unfolding begin closed component started
  begin_exact o i x = go (get_or o.walk.visited i false) (run_exact (length o.walk.faces) (i ∷ []) (started i o.walk) first)
    where
      first : Exact (started i o.walk)
      first =
          unfold started in
          (record {
            long = x.long;
            seen = length-set o.walk.visited i true ∙ x.seen;
            raw = λ j q. x.raw j (seen_less o.walk.visited i j q);
            turn = x.turn;
            told = x.told;
          })

      go : (b : Bool) → Exact (component o.walk i) → Exact (cond b o (closed o.marks (component o.walk i))).walk
      go true r = x
      go false r = r

-- the walk's count is how many faces were exchanged
pub exchanges_told : (fs : List Face) → count (turned fs (oriented fs).walk.faces) (below (length fs)) ≡ (oriented fs).walk.exchanges
unfolding oriented
exchanges_told fs =
    (through_keeps (λ o. Exact fs o.walk) begin (λ o i x. begin_exact fs o i x) (below (length fs))
    (record {
      walk = record { faces = fs; visited = replicate (length fs) false; stack = []; exchanges = 0; mark = false };
      marks = 0;
    })
    (record { long = refl; seen = length-replicate (length fs) false; raw = λ i q. refl; turn = λ i. inl refl; told = none })).told
  where
    none : count (turned fs fs) (below (length fs)) ≡ 0
    none =
        count_below_agree (turned fs fs) (λ i. false) (length fs) (λ i l. unfold turned in (ap not (eq-eqb (face fs i).b (face fs i).b refl)))
        ∙ count_all false (below (length fs))
