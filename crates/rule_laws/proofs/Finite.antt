-- Of points that number 4 does not refuse, every quality, area and edge length is a number, not negative and not infinite; so rank by quality is a
-- strict total order. Corners need not be below P. Exponents count the smallest f64, 2^-1074. Assumes nothing.
use mathlib.Core.Path.{◌≡◌, subst}
use mathlib.Core.Bool.{true, not, ◌&&◌, not-not}
use mathlib.Core.List.{List, [], ◌∷◌}
use Prim.Native.Nat.{ℕ, zero, suc}
use lib.Dec.{T}
use lib.ListN.{length}
use lib.Ieee.{binary64}
use lib.Ieee.Fits.{and_l, and_r}
use lib.Ieee.Scale.{finite}
use Rattle.rules.specs.Lists.{all}
use Rattle.rules.specs.Mesh.{Point, Face, point, face, coordinates}
use Rattle.rules.specs.Refusal.{ok, in_domain, no4}
use Rattle.rules.specs.Float.{quality, area, difference, norm}
use Rattle.rules.specs.Rank.{outranks}
use Rattle.rules.specs.Steps.{edges, quality_of}
use Rattle.rules.specs.Edges.{lengths}
use Rattle.rule_laws.proofs.Rising.{All, all_map}
use Rattle.rule_laws.proofs.Members.{in_all}
use Rattle.rule_laws.proofs.Firsts.{at_first_all}
use Rattle.rule_laws.proofs.Bounds.{Upto, plain_finite, upto_within}
use Rattle.rule_laws.proofs.Domain.{Near, domain_within, difference_norm}
use Rattle.rule_laws.proofs.FaceBounds.{zero_upto, area_upto, quality_upto}
use Rattle.rule_laws.proofs.Ranks.{StrictTotal, rank_is_order}

-- ---- points that number 4 does not refuse

-- a point whose coordinates are in the domain
near_of : (p : Point) → T (all in_domain (coordinates p)) → Near 1174 p
unfolding all
near_of p t =
    let yz = and_r (in_domain p.x) (in_domain p.y && (in_domain p.z && true)) t in
    record {
      x = domain_within p.x (and_l (in_domain p.x) (in_domain p.y && (in_domain p.z && true)) t);
      y = domain_within p.y (and_l (in_domain p.y) (in_domain p.z && true) yz);
      z = domain_within p.z (and_l (in_domain p.z) true (and_r (in_domain p.y) (in_domain p.z && true) yz));
    }

-- the same by number; past the end stands the origin
all_near : (ps : List Point) → All (λ p. T (not (not (all in_domain (coordinates p))))) ps → (i : ℕ) → Near 1174 (point ps i)
unfolding point
all_near [] a i = let z = upto_within (zero_upto 1174) in record { x = z; y = z; z = z }
all_near (p ∷ ps) a zero = near_of p (subst T (not-not (all in_domain (coordinates p))) a.0)
all_near (p ∷ ps) a (suc i) = all_near ps a.1 i

module _ (ps : List Point) (fine : no4 ps ≡ ok) where
  -- each coordinate is finite and at most 2^100 in magnitude
  pub point_near : (i : ℕ) → Near 1174 (point ps i)
  unfolding no4
  point_near = all_near ps (at_first_all 4 (λ p. not (all in_domain (coordinates p))) ps fine)

  -- ---- quality and area of any face

  -- a quality is not NaN, not negative, and at most 2^1006
  pub quality_bounded : (f : Face) → Upto binary64 2080 (quality ps f)
  unfolding quality
  quality_bounded f = quality_upto (point ps f.a) (point ps f.b) (point ps f.c) (point_near f.a) (point_near f.b) (point_near f.c)

  -- an area is not NaN, not negative, and at most 2^203
  pub area_bounded : (f : Face) → Upto binary64 1277 (area ps f)
  unfolding area
  area_bounded f = area_upto (point ps f.a) (point ps f.b) (point ps f.c) (point_near f.a) (point_near f.b) (point_near f.c)

  -- a quality is finite
  pub quality_finite : (f : Face) → T (finite (quality ps f))
  quality_finite f = plain_finite (quality ps f) (quality_bounded f).is_plain

  -- an area is finite
  pub area_finite : (f : Face) → T (finite (area ps f))
  area_finite f = plain_finite (area ps f) (area_bounded f).is_plain

  -- the length of every edge is not NaN, not negative, and at most 2^102
  pub lengths_bounded : (fs : List Face) → All (λ x. Upto binary64 1176 x) (lengths ps fs)
  unfolding lengths
  lengths_bounded fs =
      all_map (λ x. Upto binary64 1176 x) (λ e. norm (difference (point ps e.to) (point ps e.from))) (edges (length ps) fs)
      (in_all (λ e. Upto binary64 1176 (norm (difference (point ps e.to) (point ps e.from)))) (edges (length ps) fs)
      (λ e m. difference_norm (point ps e.to) (point ps e.from) (point_near e.to) (point_near e.from)))

  -- rank by quality is a strict total order
  pub quality_rank : (fs : List Face) → StrictTotal (outranks (quality_of ps fs))
  unfolding quality_of
  quality_rank fs = rank_is_order (quality_of ps fs) (λ i. (quality_bounded (face fs i)).is_plain)
