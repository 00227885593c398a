-- Any count over the entries changes, when something is said of one address, by that address's own terms.
use Rattle.std.specs.Prelude.{ℕ, ◌+◌, ◌≡◌, refl, Bool, true, false, List}
use Rattle.std.proofs.Common.{arith, sym, ap, ◌∙◌, ⊎_elim}
use Rattle.std.proofs.Math.Option.{Option, none, some, get_or}
use Rattle.lists.specs.Tests.{pick, same}
use Rattle.lists.specs.TestLaws.{cases, same_true, same_false, same_refl}
use Rattle.lists.specs.Rows.{Row, row, look}
use Rattle.spec.specs.Slots.{Content, idle, is_idle, Slot, entries, content_of, enter, kept}
use Rattle.laws.specs.SlotCounts.{Good, entry_at, count, keyed, look_absent, slot_member}
use Rattle.laws.specs.SlotChanges.{changed_tally, Entered}
use Rattle.laws.specs.Entering.{EntryRoom, Entering, entering}
use Rattle.laws.specs.SlotLaws.{member_content}

content_absent : (ss : List Slot) (k : ℕ) → look (entries ss) k ≡ none → content_of ss k ≡ idle
unfolding content_of
content_absent ss k e = ap (λ (o : Option Content). get_or o idle) e

idle_kept : (k : ℕ) → kept k idle ≡ none
unfolding is_idle
idle_kept k = refl

keyed_own : (e : Row Content) → keyed e.key (some e) ≡ 1
keyed_own e = rw (same_refl e.key)

-- the entry that changes was that of k, if k had one
entered_old : {bytes : ℕ} {ss ts : List Slot} {k : ℕ} {c : Content} → Good bytes ss → (r : Entered bytes ss k c ts) → r.old ≡ kept k (content_of ss k)
entered_old {bytes} {ss} {ts} {k} {c} good r = go r.old refl
  where
    go : (o : Option (Row Content)) → r.old ≡ o → r.old ≡ kept k (content_of ss k)
    go none e =
        e ∙ sym (ap (kept k) (content_absent ss k (look_absent ss k (r.own ∙ ap (keyed k) e))) ∙ idle_kept k)
    go (some x) e = e ∙ sym (ap (kept k) said ∙ ap (λ (b : Bool). pick b none (some (row k x.item))) lively ∙ ap (λ (j : ℕ). some (row j x.item)) (sym own))
      where
        own : x.key ≡ k
        own =
            ⊎_elim
            (λ t. same_true x.key k t)
            (λ t. absurd (let z : keyed x.key (some x) ≡ 0 = sym (ap (keyed x.key) e) ∙ r.foreign x.key (same_false x.key k t) in let y : keyed x.key (some x) ≡ 1 = keyed_own x in let q : ⊥ = omega arith in q))
            (cases (same x.key k))

        here : entry_at ss r.at ≡ some x
        here = r.changed.before ∙ e

        said : content_of ss k ≡ x.item
        said = ap (content_of ss) (sym own) ∙ member_content good (slot_member ss r.at x here)

        lively : is_idle x.item ≡ false
        lively = good.lively r.at x here

-- a count over the entries, before and after c is said of k
pub count_change : {bytes : ℕ} {ss : List Slot} {k : ℕ} {c : Content} → Good bytes ss → EntryRoom ss k c
    → (g : Option (Row Content) → ℕ) → count g (enter bytes ss k c) + g (kept k (content_of ss k)) ≡ count g ss + g (kept k c)
unfolding Entering
count_change {bytes} {ss} {k} {c} good room g = ⊎_elim changed same_slots (entering good room)
  where
    changed : Entered bytes ss k c (enter bytes ss k c) → count g (enter bytes ss k c) + g (kept k (content_of ss k)) ≡ count g ss + g (kept k c)
    changed r =
        ap (λ (o : Option (Row Content)). count g (enter bytes ss k c) + g o) (sym (entered_old good r))
        ∙ changed_tally r.changed (λ (i : ℕ). g)

    same_slots : (enter bytes ss k c ≡ ss) × (count (keyed k) ss ≡ 0) × (is_idle c ≡ true)
        → count g (enter bytes ss k c) + g (kept k (content_of ss k)) ≡ count g ss + g (kept k c)
    same_slots q =
        ap (λ (ts : List Slot). count g ts + g (kept k (content_of ss k))) q.0
        ∙ ap (λ (o : Option (Row Content)). count g ss + g o)
        (ap (kept k) (content_absent ss k (look_absent ss k q.1)) ∙ idle_kept k
        ∙ sym (ap (λ (b : Bool). pick b none (some (row k c))) q.2))
