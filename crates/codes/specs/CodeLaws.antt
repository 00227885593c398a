-- Codes by the tests that the code makes.
use Rattle.std.specs.Prelude.{ℕ, Result, Some, None, ◌^◌, ◌<◌, ◌≤◌, ◌≡◌, Bool, false, leb}
use Rattle.std.proofs.Common.{zero-le, ap, ◌∙◌, subst}
use Rattle.std.proofs.Math.Path.{refl, sym}
use Rattle.std.proofs.Math.Bool.{true}
use Rattle.lists.specs.Tests.{pick, both, same, less, at_most}
use Rattle.lists.specs.TestLaws.{same_yes, same_no, less_yes, less_no, at_most_yes, at_most_no, at_most_true, clash}
use Rattle.spec.specs.Widths.{addresses, worker_names}
use Rattle.spec.specs.Steps.{Places, places}
use Rattle.buffers.specs.Buffers.{Lends, counted_places}
use Rattle.engine.specs.declared.steps.Access.TheVariants as access
use Rattle.engine.specs.declared.steps.Ending.TheVariants as ending
use Rattle.engine.specs.declared.steps.Op.{Op}
use Rattle.engine.specs.declared.steps.Op.TheVariants as op
use Rattle.spec.specs.declared.Refusal.{Refusal}
use Rattle.engine.specs.declared.steps.Told.{Told}
use Rattle.codes.specs.declared.Code.{Code}
use Rattle.buffers.specs.declared.Places.{Places as PlaceCounts}
use Rattle.codes.specs.Codes.{Decoded, places_lent, meant_with, meant_alone, decoded_scan, decoded_put, decoded_access, decoded_seat, decoded_merge, decoded_numbered, decoded, coded_of}

-- ---- what a code means, by the number of its kind

abbrev pub access_by : ℕ → Places → Code → Decoded
access_by x m k =
    pick (same x 1) (meant_alone (op.Access k.a (access.Read k.b)))
    (pick (same x 2) (decoded_scan m k)
    (pick (same x 3) (decoded_put k)
    (pick (same x 4) (meant_alone (op.Access k.a (access.Remove k.b))) None)))

abbrev pub seat_by : ℕ → Places → Code → Decoded
seat_by x m k =
    pick (same x 0) (meant_alone (op.Begin k.a))
    (pick (same x 5) (meant_alone (op.Ending k.a ending.Lock))
    (pick (same x 6) (meant_alone (op.Ending k.a ending.Validate))
    (pick (same x 7) (meant_alone (op.Ending k.a ending.Install))
    (pick (same x 8) (meant_alone (op.Ending k.a ending.Abort)) (decoded_access m k)))))

abbrev scan_in : Code → Decoded
scan_in k = meant_with (op.Access k.a (access.Scan k.b k.c)) (places k.d k.e k.f)

-- ---- by the tests that the code makes

module _ (k : Code) where
  pub put_wide : 2 ^ 16 ≤ k.d → None ≡ decoded_put k
  unfolding decoded_put
  put_wide h = rw (less_no h)

  pub put_meant : k.d < 2 ^ 16 → meant_alone (op.Access k.a (access.Put k.b k.c k.d)) ≡ decoded_put k
  unfolding decoded_put
  put_meant h = rw (less_yes h)

  pub merge_wide : addresses ≤ k.a → None ≡ decoded_merge k
  unfolding decoded_merge
  merge_wide h = rw (less_no h)

  pub merge_meant : k.a < addresses → meant_alone (op.Merge k.a) ≡ decoded_merge k
  unfolding decoded_merge
  merge_meant h = rw (less_yes h)

module _ (m : Places) (k : Code) where
  -- by the tests of its places
  lent_is : (x y z : Bool) → at_most k.d m.addresses ≡ x → at_most k.e m.values ≡ y → at_most k.f m.owners ≡ z → both x (both y z) ≡ places_lent m k
  unfolding places_lent
  lent_is x y z f g h = rw (f, g, h)

  pub lent_addresses : m.addresses < k.d → false ≡ places_lent m k
  lent_addresses f = lent_is false _ _ (at_most_no f) refl refl

  pub lent_values : m.values < k.e → k.d ≤ m.addresses → false ≡ places_lent m k
  lent_values g f = lent_is true false _ (at_most_yes f) (at_most_no g) refl

  pub lent_owners : k.e ≤ m.values → k.d ≤ m.addresses → leb k.f m.owners ≡ places_lent m k
  unfolding at_most
  lent_owners g f = lent_is true true _ (at_most_yes f) (at_most_yes g) refl

  -- by its tests
  scan_is : (x y : Bool) → less k.c addresses ≡ x → places_lent m k ≡ y → pick (both x y) (scan_in k) None ≡ decoded_scan m k
  unfolding decoded_scan
  scan_is x y e f = rw (e, f)

  pub scan_wide : addresses ≤ k.c → None ≡ decoded_scan m k
  scan_wide h = scan_is false _ (less_no h) refl

  pub scan_unlent : {b : Bool} → b ≡ places_lent m k → b ≡ false → k.c < addresses → None ≡ decoded_scan m k
  scan_unlent e f h = scan_is true false (less_yes h) (sym e ∙ f)

  pub scan_meant : {b : Bool} → b ≡ places_lent m k → b ≡ true → k.c < addresses → scan_in k ≡ decoded_scan m k
  scan_meant e f h = scan_is true true (less_yes h) (sym e ∙ f)

  -- ---- read, scan, put, remove

  pub access_wide : addresses ≤ k.b → None ≡ decoded_access m k
  unfolding decoded_access
  access_wide h = rw (less_no h)

  -- by its kind
  pub access_kind : (x : ℕ) → k.kind ≡ x → k.b < addresses → access_by x m k ≡ decoded_access m k
  unfolding decoded_access
  access_kind x e h = rw (less_yes h) (ap (λ (y : ℕ). access_by y m k) (sym e))

  pub access_other : (k.kind ≡ 1 → ⊥) → (k.kind ≡ 2 → ⊥) → (k.kind ≡ 3 → ⊥) → (k.kind ≡ 4 → ⊥) → k.b < addresses → None ≡ decoded_access m k
  unfolding decoded_access
  access_other x y z u h = rw (less_yes h, same_no x, same_no y, same_no z, same_no u)

  -- ---- all steps

  pub seat_wide : worker_names ≤ k.a → None ≡ decoded_seat m k
  unfolding decoded_seat
  seat_wide h = rw (less_no h)

  pub seat_kind : (x : ℕ) → k.kind ≡ x → k.a < worker_names → seat_by x m k ≡ decoded_seat m k
  unfolding decoded_seat
  seat_kind x e h = rw (less_yes h) (ap (λ (y : ℕ). seat_by y m k) (sym e))

  pub seat_other : (k.kind ≡ 0 → ⊥) → (k.kind ≡ 5 → ⊥) → (k.kind ≡ 6 → ⊥) → (k.kind ≡ 7 → ⊥) → (k.kind ≡ 8 → ⊥)
      → k.a < worker_names → decoded_access m k ≡ decoded_seat m k
  unfolding decoded_seat
  seat_other x y z u v h = rw (less_yes h, same_no x, same_no y, same_no z, same_no u, same_no v)

  -- a fold, or a step with a seat
  pub code_merge : {d : Decoded} → k.kind ≡ 9 → d ≡ decoded_merge k → d ≡ decoded_numbered m k
  unfolding decoded_numbered
  code_merge x e = e ∙ sym (ap (λ (b : Bool). pick b (decoded_merge k) (decoded_seat m k)) (same_yes {m = k.kind} {n = 9} x))

  pub code_seat : {d : Decoded} → (k.kind ≡ 9 → ⊥) → d ≡ decoded_seat m k → d ≡ decoded_numbered m k
  unfolding decoded_numbered
  code_seat x e = e ∙ sym (ap (λ (b : Bool). pick b (decoded_merge k) (decoded_seat m k)) (same_no x))

  -- a fold of the oldest, or a step with numbers
  pub code_oldest : k.kind ≡ 10 → meant_alone op.MergeOldest ≡ decoded m k
  unfolding decoded
  code_oldest e = rw (same_yes {m = k.kind} {n = 10} e)

  pub code_numbered : {d : Decoded} → (k.kind ≡ 10 → ⊥) → d ≡ decoded_numbered m k → d ≡ decoded m k
  unfolding decoded
  code_numbered x e = e ∙ sym (ap (λ (b : Bool). pick b (meant_alone op.MergeOldest) (decoded_numbered m k)) (same_no x))

-- ---- replies

pub reply_is : {p q : Result Told Refusal} → p ≡ q → coded_of q ≡ coded_of p
reply_is e = ap coded_of (sym e)

-- ---- the places that a code wants are lent

abbrev LendsFor : Places → Decoded → Type 0
LendsFor m (Some p) = Lends m (counted_places p.1)
LendsFor m None = Unit {0}

pub lends_none : (m : Places) → Lends m (places 0 0 0)
lends_none m = record { addresses = zero-le; values = zero-le; owners = zero-le }

pick_lends : (m : Places) (b : Bool) (x y : Decoded) → LendsFor m x → LendsFor m y → LendsFor m (pick b x y)
pick_lends m true x y h k = h
pick_lends m false x y h k = k

pub lent_lends : (m : Places) (k : Code) → places_lent m k ≡ true → Lends m (places k.d k.e k.f)
unfolding places_lent
lent_lends m k e = go (at_most k.d m.addresses) (at_most k.e m.values) (at_most k.f m.owners) refl refl refl e
  where
    go : (x y z : Bool) → at_most k.d m.addresses ≡ x → at_most k.e m.values ≡ y → at_most k.f m.owners ≡ z → both x (both y z) ≡ true
        → Lends m (places k.d k.e k.f)
    go true true true f g h t =
        record {
          addresses = at_most_true k.d m.addresses f;
          values = at_most_true k.e m.values g;
          owners = at_most_true k.f m.owners h;
        }
    go true true false f g h t = clash t refl
    go true false z f g h t = clash t refl
    go false y z f g h t = clash t refl

scan_lends : (m : Places) (k : Code) → LendsFor m (decoded_scan m k)
unfolding decoded_scan
scan_lends m k = go (less k.c addresses) (places_lent m k) refl
  where
    go : (x y : Bool) → places_lent m k ≡ y → LendsFor m (pick (both x y) (scan_in k) None)
    go true true e = lent_lends m k e
    go true false e = tt
    go false y e = tt

put_lends : (m : Places) (k : Code) → LendsFor m (decoded_put k)
unfolding decoded_put
put_lends m k = pick_lends m (less k.d (2 ^ 16)) _ _ (lends_none m) tt

access_lends : (m : Places) (k : Code) → LendsFor m (decoded_access m k)
unfolding decoded_access
access_lends m k =
    pick_lends m (less k.b addresses) _ _
    (pick_lends m (same k.kind 1) _ _ (lends_none m)
    (pick_lends m (same k.kind 2) _ _ (scan_lends m k)
    (pick_lends m (same k.kind 3) _ _ (put_lends m k) (pick_lends m (same k.kind 4) _ _ (lends_none m) tt))))
    tt

seat_lends : (m : Places) (k : Code) → LendsFor m (decoded_seat m k)
unfolding decoded_seat
seat_lends m k =
    pick_lends m (less k.a worker_names) _ _
    (pick_lends m (same k.kind 0) _ _ (lends_none m)
    (pick_lends m (same k.kind 5) _ _ (lends_none m)
    (pick_lends m (same k.kind 6) _ _ (lends_none m)
    (pick_lends m (same k.kind 7) _ _ (lends_none m)
    (pick_lends m (same k.kind 8) _ _ (lends_none m) (access_lends m k))))))
    tt

merge_lends : (m : Places) (k : Code) → LendsFor m (decoded_merge k)
unfolding decoded_merge
merge_lends m k = pick_lends m (less k.a addresses) _ _ (lends_none m) tt

numbered_lends : (m : Places) (k : Code) → LendsFor m (decoded_numbered m k)
unfolding decoded_numbered
numbered_lends m k = pick_lends m (same k.kind 9) _ _ (merge_lends m k) (seat_lends m k)

lends : (m : Places) (k : Code) → LendsFor m (decoded m k)
unfolding decoded
lends m k = pick_lends m (same k.kind 10) _ _ (lends_none m) (numbered_lends m k)

pub meant_lends : (m : Places) (k : Code) {d : Decoded} {o : Op} {w : PlaceCounts} → d ≡ decoded m k → d ≡ Some (o, w) → Lends m (counted_places w)
meant_lends m k e f = subst (LendsFor m) (sym e ∙ f) (lends m k)
