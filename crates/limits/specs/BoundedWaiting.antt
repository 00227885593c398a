-- Request 101, nobody starves: from every state that a list of steps reaches, an address that waits is merged by the time
-- that as many merges of the oldest have come as addresses can wait, whatever installs, merges, aborts and refusals come
-- between.
--
-- The measure is how many have waited longer. No step raises it, since what begins to wait is younger; a merge of the
-- oldest that does not take this address in takes an older one.
use Rattle.std.specs.Prelude.{ℕ, suc, ◌+◌, ◌-◌, ◌<◌, ◌≤◌, ◌≡◌, refl, ◌⊎◌, Bool, true, false, List, [], ◌∷◌, ◌++◌, length}
use Rattle.std.proofs.Common.{zero-le, le_trans, le_of_eq, lt_of_lt_of_le, arith, sym, ap, ◌∙◌, subst, inl, inr, ⊎_elim}
use Rattle.std.proofs.Math.Nat.{le_step}
use Rattle.std.proofs.Math.Option.{Option, none, some}
use Rattle.lists.specs.Tests.{pick, maybe}
use Rattle.lists.specs.TestLaws.{cases, clash}
use Rattle.lists.specs.Options.{both_options, some_same}
use Rattle.lists.specs.Rows.{row, look, keys, has}
use Rattle.spec.specs.Records.{limits, Made, Write}
use Rattle.spec.specs.Slots.{entries, content_of}
use Rattle.spec.specs.Maps.{MapState, merging, older, oldest}
use Rattle.spec.specs.Steps.{State, fresh, Step, next, final}
use Rattle.spec.specs.Waiting.{waits_since, is_merge_oldest, oldest_merges, takes_in, TakenWithin}
use Rattle.laws.specs.SlotLaws.{Good}
use Rattle.spec.specs.GoodTuning.{GoodTuning}
use Rattle.laws.specs.OldestLaws.{older_true, strictly_older}
use Rattle.laws.specs.WaitingLaws.{older_at, older_count, older_fewer_than_entries, older_no_more, older_one_less, oldest_waits, merging_takes}
use Rattle.limits.specs.Invariant.{Kept, fresh_kept}
use Rattle.limits.specs.Keeping.{next_kept, final_kept, final_made}
use Rattle.limits.specs.Aging.{WaitsSame, WaitsMore, WaitsLess, WaitChange, wait_change}

-- ---- ages are installs that were

pub record Aged (σ : State) : Type 0 where
  pub past : (k t : ℕ) → waits_since σ.map k ≡ some t → t ≤ σ.counters.installs

-- what waits after a merge waited before
left_over : (b : Bool) (o : Option ℕ) (t : ℕ) → pick b none o ≡ some t → o ≡ some t
left_over true o t e = both_options e refl
left_over false o t e = e

-- what waits after install n waited before, or since that install
begun : (o : Option Write) (w : Option ℕ) (n t : ℕ) → maybe o w (λ (e : Write). some (maybe w n (λ (u : ℕ). u))) ≡ some t → (w ≡ some t) ⊎ (t ≡ n)
begun none w n t e = inl e
begun (some x) none n t e = inr (sym (some_same e))
begun (some x) (some u) n t e = inl e

-- and what waited before goes on waiting
waits_on : (o : Option Write) (w : Option ℕ) (n t : ℕ) → w ≡ some t → maybe o w (λ (e : Write). some (maybe w n (λ (u : ℕ). u))) ≡ some t
waits_on none w n t e = e
waits_on (some x) none n t e = both_options e refl
waits_on (some x) (some u) n t e = e

next_aged : {σ : State} → Kept σ → Aged σ → (s : Step) → Aged (next σ s)
next_aged {σ} h a s = record { past = λ k t e. past k t e (wait_change h s) }
  where
    past : (k t : ℕ) → waits_since (next σ s).map k ≡ some t → WaitChange σ s (next σ s) → t ≤ (next σ s).counters.installs
    past k t e (inl c) = le_trans (a.past k t (sym (c.waits k) ∙ e)) (le_of_eq (sym c.installs))
    past k t e (inr (inl c)) =
        le_trans
        (⊎_elim
        (λ q. le_step (a.past k t q))
        (λ q. le_of_eq q)
        (begun (look c.writes k) (waits_since σ.map k) (suc σ.counters.installs) t (sym (c.waits k) ∙ e)))
        (le_of_eq (sym c.installs))
    past k t e (inr (inr c)) =
        le_trans (a.past k t (left_over (has k (keys (merging σ.map c.at))) (waits_since σ.map k) t (sym (c.waits k) ∙ e))) (le_of_eq (sym c.installs))

final_aged : {σ : State} → Kept σ → Aged σ → (ss : List Step) → Aged (final σ ss)
unfolding final
final_aged h a [] = a
final_aged {σ = σ} h a (s ∷ ss) = final_aged {σ = next σ s} (next_kept h s) (next_aged h a s) ss

fresh_aged : (d : Made) → Aged (fresh d)
unfolding waits_since content_of entries look
fresh_aged d = record { past = λ k t e. both_options e refl }

-- ---- one step

-- The address waits on, and no more have waited longer; fewer, if the step merges the oldest.
record WaitsOn (σ : State) (k t : ℕ) (s : Step) : Type 0 where
  pub waits : waits_since (next σ s).map k ≡ some t
  pub fewer : older_count (next σ s).map k t + pick (is_merge_oldest s) 1 0 ≤ older_count σ.map k t

module _ {σ : State} (h : Kept σ) (a : Aged σ) (k t : ℕ) (e : waits_since σ.map k ≡ some t) (s : Step) where
  good_next : Good limits.bytes (next σ s).map.slots
  good_next = (next_kept h s).map.slots

  -- j has waited longer after the step only if it had before
  abbrev NoneNew : Type 0
  NoneNew = (j : ℕ) → older_at (next σ s).map k t j ≡ true → older_at σ.map k t j ≡ true

  no_more : is_merge_oldest s ≡ false → NoneNew → waits_since (next σ s).map k ≡ some t → WaitsOn σ k t s
  no_more o n w =
      record {
        waits = w;
        fewer = plain (is_merge_oldest s) o (older_count (next σ s).map k t) (older_count σ.map k t) (older_no_more σ.map (next σ s).map k t h.map.slots good_next n);
      }
    where
      plain : (b : Bool) → b ≡ false → (x y : ℕ) → x ≤ y → x + pick b 1 0 ≤ y
      plain true q x y l = clash refl q
      plain false q x y l = omega arith

  same_step : WaitsSame σ s (next σ s) → WaitsOn σ k t s
  same_step c = no_more c.other (λ j q. sym (ap (λ (o : Option ℕ). maybe o false (λ (u : ℕ). older (row j u) (row k t))) (c.waits j)) ∙ q) (c.waits k ∙ e)

  more_step : WaitsMore σ s (next σ s) → WaitsOn σ k t s
  more_step c = no_more c.other (λ j q. new j (waits_since (next σ s).map j) refl q) (c.waits k ∙ waits_on (look c.writes k) (waits_since σ.map k) (suc σ.counters.installs) t e)
    where
      -- what begins to wait now is younger
      younger : (j u : ℕ) → u ≡ suc σ.counters.installs → older (row j u) (row k t) ≡ true → ⊥
      younger j u q o =
          let p : t ≤ σ.counters.installs = a.past k t e in
          ⊎_elim (λ l. let z : ⊥ = omega arith in z) (λ l. let i : u ≡ t = l.0 in let z : ⊥ = omega arith in z) (older_true (row j u) (row k t) o)

      new : (j : ℕ) (o : Option ℕ) → waits_since (next σ s).map j ≡ o → maybe o false (λ (u : ℕ). older (row j u) (row k t)) ≡ true → older_at σ.map k t j ≡ true
      new j none w q = clash q refl
      new j (some u) w q =
          ⊎_elim
          (λ f. ap (λ (o : Option ℕ). maybe o false (λ (u : ℕ). older (row j u) (row k t))) f ∙ q)
          (λ f. absurd (younger j u f q))
          (begun (look c.writes j) (waits_since σ.map j) (suc σ.counters.installs) u (sym (c.waits j) ∙ w))

  less_step : WaitsLess σ s (next σ s) → (takes_in σ k s ≡ true) ⊎ WaitsOn σ k t s
  less_step c = ⊎_elim (λ q. inl (c.takes k ∙ q)) (λ q. inr (stays q (cases (is_merge_oldest s)))) (cases (has k (keys (merging σ.map c.at))))
    where
      none_new : NoneNew
      none_new j q = go (has j (keys (merging σ.map c.at))) (sym (ap (λ (o : Option ℕ). maybe o false (λ (u : ℕ). older (row j u) (row k t))) (c.waits j)) ∙ q)
        where
          go : (b : Bool) → maybe (pick b none (waits_since σ.map j)) false (λ (u : ℕ). older (row j u) (row k t)) ≡ true → older_at σ.map k t j ≡ true
          go true x = clash x refl
          go false x = x

      on : has k (keys (merging σ.map c.at)) ≡ false → waits_since (next σ s).map k ≡ some t
      on q = c.waits k ∙ ap (λ (b : Bool). pick b none (waits_since σ.map k)) q ∙ e

      -- the oldest is taken in, and it is another address
      one_less : has k (keys (merging σ.map c.at)) ≡ false → c.at ≡ oldest σ.map → older_count (next σ s).map k t < older_count σ.map k t
      one_less q o =
          older_one_less σ.map (next σ s).map k t h.map.slots good_next none_new (oldest σ.map)
          (ap (λ (x : Option ℕ). maybe x false (λ (u : ℕ). older (row (oldest σ.map) u) (row k t))) first.1
          ∙ strictly_older (row (oldest σ.map) first.0) (row k t) first.2 (λ d. clash (ap (λ (j : ℕ). has j (keys (merging σ.map c.at))) (sym d) ∙ taken) q))
          (ap (λ (x : Option ℕ). maybe x false (λ (u : ℕ). older (row (oldest σ.map) u) (row k t))) (c.waits (oldest σ.map) ∙ ap (λ (b : Bool). pick b none (waits_since σ.map (oldest σ.map))) taken))
        where
          first : (u : ℕ) × (waits_since σ.map (oldest σ.map) ≡ some u) × (older (row k t) (row (oldest σ.map) u) ≡ false)
          first = oldest_waits σ.map h.map.slots k t e

          taken : has (oldest σ.map) (keys (merging σ.map c.at)) ≡ true
          taken = ap (λ (x : ℕ). has (oldest σ.map) (keys (merging σ.map x))) o ∙ merging_takes σ.map h.map.slots (oldest σ.map) first.0 (oldest σ.map) first.1 refl

      stays : has k (keys (merging σ.map c.at)) ≡ false → (is_merge_oldest s ≡ true) ⊎ (is_merge_oldest s ≡ false) → WaitsOn σ k t s
      stays q (inl o) = record { waits = on q; fewer = strict (is_merge_oldest s) _ _ (one_less q (c.oldest_first_lem o)) }
        where
          strict : (b : Bool) (x y : ℕ) → x < y → x + pick b 1 0 ≤ y
          strict true x y l = omega arith
          strict false x y l = omega arith
      stays q (inr o) = no_more o none_new (on q)

  one_step : (takes_in σ k s ≡ true) ⊎ WaitsOn σ k t s
  one_step = go (wait_change h s)
    where
      go : WaitChange σ s (next σ s) → (takes_in σ k s ≡ true) ⊎ WaitsOn σ k t s
      go (inl c) = inr (same_step c)
      go (inr (inl c)) = inr (more_step c)
      go (inr (inr c)) = less_step c

-- ---- all steps

-- the step before the others
taken_later : {σ : State} {k t n n' : ℕ} (s : Step) {ss : List Step} → waits_since σ.map k ≡ some t → waits_since (next σ s).map k ≡ some t
    → n' + pick (is_merge_oldest s) 1 0 ≤ n → TakenWithin (next σ s) k n' ss → TakenWithin σ k n (s ∷ ss)
unfolding final oldest_merges
taken_later {σ} {k} {t} {n} {n'} s e f l r =
    record {
      before = s ∷ r.before;
      taker = r.taker;
      rest = r.rest;
      parts = ap (λ (xs : List Step). s ∷ xs) r.parts;
      waited = r.waited ∙ f ∙ sym e;
      takes = r.takes;
      soon = counted (is_merge_oldest s) l r.soon;
    }
  where
    counted : (b : Bool) → n' + pick b 1 0 ≤ n → oldest_merges (r.before ++ (r.taker ∷ [])) ≤ n'
        → pick b (suc (oldest_merges (r.before ++ (r.taker ∷ [])))) (oldest_merges (r.before ++ (r.taker ∷ []))) ≤ n
    counted true x y = omega arith
    counted false x y = omega arith

taken_now : {σ : State} {k n : ℕ} (s : Step) {ss : List Step} → takes_in σ k s ≡ true → 1 ≤ n → TakenWithin σ k n (s ∷ ss)
unfolding final oldest_merges
taken_now {n = n} s {ss} q l =
    record {
      before = [];
      taker = s;
      rest = ss;
      parts = refl;
      waited = refl;
      takes = q;
      soon = counted (is_merge_oldest s);
    }
  where
    counted : (b : Bool) → pick b 1 0 ≤ n
    counted true = l
    counted false = zero-le

-- with fewer older ones than turns to come, it is taken in
within : {σ : State} → Kept σ → Aged σ → (k t n : ℕ) → waits_since σ.map k ≡ some t → older_count σ.map k t < n
    → (ss : List Step) → n ≤ oldest_merges ss → TakenWithin σ k n ss
unfolding oldest_merges
within h a k t n e l [] m = absurd (let z : ⊥ = omega arith in z)
within {σ} h a k t n e l (s ∷ ss) m =
    ⊎_elim
    (λ q. taken_now s q (let z : 1 ≤ n = omega arith in z))
    (λ q. on (is_merge_oldest s) refl m q.fewer q.waits (λ n' l' m'. within {σ = next σ s} (next_kept h s) (next_aged h a s) k t n' q.waits l' ss m'))
    (one_step h a k t e s)
  where
    on : (b : Bool) → is_merge_oldest s ≡ b → n ≤ pick b (suc (oldest_merges ss)) (oldest_merges ss)
        → older_count (next σ s).map k t + pick (is_merge_oldest s) 1 0 ≤ older_count σ.map k t → waits_since (next σ s).map k ≡ some t
        → ((n' : ℕ) → older_count (next σ s).map k t < n' → n' ≤ oldest_merges ss → TakenWithin (next σ s) k n' ss) → TakenWithin σ k n (s ∷ ss)
    on true o m f w ih =
        let g : older_count (next σ s).map k t + 1 ≤ older_count σ.map k t
        = subst (λ (b : Bool). older_count (next σ s).map k t + pick b 1 0 ≤ older_count σ.map k t) o f in
        taken_later s e w (subst (λ (b : Bool). n - 1 + pick b 1 0 ≤ n) (sym o) (let z : n - 1 + 1 ≤ n = omega arith in z))
        (ih (n - 1) (let z : older_count (next σ s).map k t < n - 1 = omega arith in z) (let z : n - 1 ≤ oldest_merges ss = omega arith in z))
    on false o m f w ih =
        let g : older_count (next σ s).map k t + 0 ≤ older_count σ.map k t
        = subst (λ (b : Bool). older_count (next σ s).map k t + pick b 1 0 ≤ older_count σ.map k t) o f in
        taken_later s e w (subst (λ (b : Bool). n + pick b 1 0 ≤ n) (sym o) (let z : n + 0 ≤ n = omega arith in z))
        (ih n (let z : older_count (next σ s).map k t < n = omega arith in z) m)

pub bounded_waiting : (d : Made) → GoodTuning d.tuning → (ss : List Step) (k t : ℕ) → waits_since (final (fresh d) ss).map k ≡ some t
    → (ts : List Step) → d.tuning.waiting_limit ≤ oldest_merges ts → TakenWithin (final (fresh d) ss) k d.tuning.waiting_limit ts
bounded_waiting d c ss k t e ts m =
    within h (final_aged (fresh_kept d c) (fresh_aged d) ss) k t d.tuning.waiting_limit e few ts m
  where
    h : Kept (final (fresh d) ss)
    h = final_kept (fresh_kept d c) ss

    few : older_count (final (fresh d) ss).map k t < d.tuning.waiting_limit
    few =
        lt_of_lt_of_le (older_fewer_than_entries (final (fresh d) ss).map k t h.map.slots e)
        (subst (λ (x : Made). length (entries (final (fresh d) ss).map.slots) ≤ x.tuning.waiting_limit) (final_made (fresh d) ss) h.map.waiting)
