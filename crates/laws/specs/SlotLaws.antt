-- Laws of the indexlet: what it says of each address after a change, that its entries are those of which it says something,
-- and how a sum over the entries changes.
use Rattle.std.specs.Prelude.{ℕ, ◌+◌, ◌<◌, ◌≤◌, ◌≡◌, refl, ◌⊎◌, Bool, true, false, not, length}
use Rattle.std.proofs.Common.{arith, sym, ap, ◌∙◌, subst, ⊎_elim}
use mathlib.Core.List.{List, [], ◌∷◌, Memᴰ}
use Rattle.std.proofs.Math.Option.{Option, none, some, get_or}
use Rattle.lists.specs.Tests.{pick, maybe, present, same}
use Rattle.lists.specs.TestLaws.{cases, clash, same_true, same_false, same_no}
use Rattle.lists.specs.Rows.{Row, row, look, keys, any, has}
use Rattle.lists.specs.Members.{look_member}
use Rattle.lists.specs.Sums.{total}
use Rattle.lists.specs.Options.{options, both_options}
use Rattle.spec.specs.Slots.{Pending, Content, idle, is_idle, Slot, entries, content_of, enter, kept}
use Rattle.lists.specs.Rows.{Different}
use Rattle.laws.specs.SlotChanges.{changed_tally, Entered}
use Rattle.laws.specs.SlotCounts.{entry_at, tally, count, keyed, entries_some, entries_none, count_cons, keyed_here, look_absent, look_held, Place, member_slot, lookup}
pub use Rattle.laws.specs.SlotCounts.{Good}
pub use Rattle.laws.specs.Searches.{search_finds}
use Rattle.laws.specs.Entering.{Entering, entering, keyed_other, entered_good}
pub use Rattle.laws.specs.Entering.{EntryRoom, goes, stands, fits, enter_idle, enter_present, enter_absent, kept_entry, enter_good, fresh_good}

-- ---- what the indexlet says of an address

-- what is said of an address once `c` has entered: nothing, if that is neither waiting nor locked
abbrev pub said : Content → Content
said c = pick (is_idle c) idle c

said_busy : (c : Content) → is_idle c ≡ false → said c ≡ c
said_busy c t = ap (λ (b : Bool). pick b idle c) t

-- what is pending and who has the lock is said in any case
pub said_pending : (c : Content) → (said c).pending ≡ c.pending
unfolding is_idle
said_pending c = go c.pending c.holder
  where
    go : (p : Option Pending) (h : Option ℕ) → (said (record { pending = p; holder = h; for_put = c.for_put })).pending ≡ p
    go none none = refl
    go none (some w) = refl
    go (some x) h = refl

pub said_holder : (c : Content) → (said c).holder ≡ c.holder
unfolding is_idle
said_holder c = go c.pending c.holder
  where
    go : (p : Option Pending) (h : Option ℕ) → (said (record { pending = p; holder = h; for_put = c.for_put })).holder ≡ h
    go none none = refl
    go none (some w) = refl
    go (some x) h = refl

-- and of a lock what it is for
pub said_kind : (c : Content) (w : ℕ) → c.holder ≡ some w → (said c).for_put ≡ c.for_put
unfolding is_idle
said_kind c w e = go c.pending c.holder e
  where
    go : (p : Option Pending) (h : Option ℕ) → h ≡ some w → (said (record { pending = p; holder = h; for_put = c.for_put })).for_put ≡ c.for_put
    go none none e = both_options e refl
    go none (some w) e = refl
    go (some x) h e = refl

said_plain : (c : Content) → c.for_put ≡ false → said c ≡ c
unfolding is_idle
said_plain c e = go c.pending c.holder c.for_put e
  where
    go : (p : Option Pending) (h : Option ℕ) (b : Bool) → b ≡ false → ◌≡◌ {A = Content}
        (said (record { pending = p; holder = h; for_put = b })) (record { pending = p; holder = h; for_put = b })
    go none none true e = clash refl e
    go none none false e = refl
    go none (some w) b e = refl
    go (some x) h b e = refl

idle_idle : is_idle idle ≡ true
unfolding is_idle
idle_idle = refl

pub content_none : (ss : List Slot) (k : ℕ) → look (entries ss) k ≡ none → content_of ss k ≡ idle
unfolding content_of
content_none ss k q = ap (λ (o : Option Content). get_or o idle) q

pub content_some : (ss : List Slot) (k : ℕ) (c : Content) → look (entries ss) k ≡ some c → content_of ss k ≡ c
unfolding content_of
content_some ss k c q = ap (λ (o : Option Content). get_or o idle) q

-- an address that is not written is found, or not found, as before
look_other : {bytes : ℕ} {ss : List Slot} {k : ℕ} {c : Content} {ts : List Slot} → Good bytes ss → Good bytes ts → Entered bytes ss k c ts
    → (j : ℕ) → (j ≡ k → ⊥) → look (entries ts) j ≡ look (entries ss) j
look_other {bytes} {ss} {k} {c} {ts} good good' r j n =
    ⊎_elim
    (λ q. look_absent ts j (same_count ∙ q.0) ∙ sym q.1)
    (λ q. look_held ts q.0.at j q.0.content (good'.once j)
    (let z : length ts ≡ length ss = r.changed.size in let y : q.0.at < length ss = q.0.inside in omega arith)
    (r.changed.others q.0.at q.0.inside (elsewhere q.0) ∙ q.0.here) q.0.own ∙ sym q.1)
    (lookup bytes ss j good)
  where
    same_count : count (keyed j) ts ≡ count (keyed j) ss
    same_count =
        let s : count (keyed j) ts + keyed j r.old ≡ count (keyed j) ss + keyed j (kept k c) = changed_tally r.changed (λ (i : ℕ). keyed j) in
        let a : keyed j r.old ≡ 0 = r.foreign j n in
        let b : keyed j (kept k c) ≡ 0 = keyed_other j k c n in
        omega arith

    elsewhere : (q : Place ss j) → q.at ≡ r.at → ⊥
    elsewhere q e =
        let a : keyed j r.old ≡ 1
        = keyed_here j r.old q.content (sym r.changed.before ∙ ap (entry_at ss) (sym e) ∙ q.here) q.own in
        let b : keyed j r.old ≡ 0 = r.foreign j n in
        omega arith

content_own : {bytes : ℕ} {ss : List Slot} {k : ℕ} {c : Content} {ts : List Slot} → Good bytes ts → Entered bytes ss k c ts → content_of ts k ≡ said c
content_own {bytes} {ss} {k} {c} {ts} good r =
    ⊎_elim
    (λ t. content_none ts k (look_absent ts k (gone t)) ∙ sym (ap (λ (b : Bool). pick b idle c) t))
    (λ t. content_some ts k c (look_held ts r.at k (row k c) (good.once k)
    (let z : length ts ≡ length ss = r.changed.size in let y : r.at < length ss = r.changed.inside in omega arith)
    (r.changed.after ∙ ap (λ (t : Bool). pick t none (some (row k c))) t) refl) ∙ sym (said_busy c t))
    (cases (is_idle c))
  where
    gone : is_idle c ≡ true → count (keyed k) ts ≡ 0
    gone t =
        let s : count (keyed k) ts + keyed k r.old ≡ count (keyed k) ss + keyed k (kept k c) = changed_tally r.changed (λ (i : ℕ). keyed k) in
        let a : count (keyed k) ss ≡ keyed k r.old = r.own in
        let b : keyed k (kept k c) ≡ 0 = ap (λ (t : Bool). keyed k (pick t none (some (row k c)))) t in
        omega arith

pub content_said : {bytes : ℕ} {ss : List Slot} {k : ℕ} {c : Content} → Good bytes ss → EntryRoom ss k c
    → (j : ℕ) → content_of (enter bytes ss k c) j ≡ pick (same k j) (said c) (content_of ss j)
unfolding content_of Entering
content_said {bytes} {ss} {k} {c} good room j =
    ⊎_elim changed unchanged (entering good room)
  where
    ts : List Slot
    ts = enter bytes ss k c

    changed : Entered bytes ss k c ts → content_of ts j ≡ pick (same k j) (said c) (content_of ss j)
    changed r =
        let good' : Good bytes ts = entered_good good r in
        ⊎_elim
        (λ t. ap (content_of ts) (sym (same_true k j t)) ∙ content_own good' r ∙ ap (λ (t : Bool). pick t (said c) (content_of ss j)) (sym t))
        (λ t. ap (λ (o : Option Content). get_or o idle) (look_other good good' r j (λ q. same_false k j t (sym q)))
        ∙ ap (λ (t : Bool). pick t (said c) (content_of ss j)) (sym t))
        (cases (same k j))

    unchanged : (ts ≡ ss) × (count (keyed k) ss ≡ 0) × (is_idle c ≡ true) → content_of ts j ≡ pick (same k j) (said c) (content_of ss j)
    unchanged r =
        ap (λ (l : List Slot). content_of l j) r.0
        ∙ ⊎_elim
        (λ t. ap (content_of ss) (sym (same_true k j t)) ∙ content_none ss k (look_absent ss k r.1) ∙ sym (ap (λ (b : Bool). pick b idle c) r.2)
        ∙ ap (λ (t : Bool). pick t (said c) (content_of ss j)) (sym t))
        (λ t. ap (λ (t : Bool). pick t (said c) (content_of ss j)) (sym t))
        (cases (same k j))

-- all of it is said, if there is something to say or it is not for a put
pub content_enter : {bytes : ℕ} {ss : List Slot} {k : ℕ} {c : Content} → Good bytes ss → EntryRoom ss k c → (is_idle c ≡ false) ⊎ (c.for_put ≡ false)
    → (j : ℕ) → content_of (enter bytes ss k c) j ≡ pick (same k j) c (content_of ss j)
content_enter {ss = ss} {k} {c} good room p j =
    content_said good room j ∙ ap (λ (x : Content). pick (same k j) x (content_of ss j)) (⊎_elim (said_busy c) (said_plain c) p)

pub member_content : {bytes : ℕ} {ss : List Slot} {e : Row Content} → Good bytes ss → Memᴰ e (entries ss) → content_of ss e.key ≡ e.item
member_content {bytes} {ss} {e} good m =
    let r = member_slot ss e m in
    content_some ss e.key e.item (look_held ss r.0 e.key e (good.once e.key) r.1 r.2 refl)

pub present_content : {bytes : ℕ} {ss : List Slot} → Good bytes ss → (k : ℕ) → present (look (entries ss) k) ≡ not (is_idle (content_of ss k))
present_content {bytes} {ss} good k =
    ⊎_elim
    (λ q. ap present q.1 ∙ sym (ap (λ (c : Content). not (is_idle c)) (content_none ss k q.1) ∙ ap not idle_idle))
    (λ q. ap present q.1
    ∙ sym (ap (λ (c : Content). not (is_idle c)) (content_some ss k q.0.content.item q.1)
    ∙ ap not (good.lively q.0.at q.0.content q.0.here)))
    (lookup bytes ss k good)

pub content_member : {bytes : ℕ} {ss : List Slot} → Good bytes ss → (k : ℕ) → is_idle (content_of ss k) ≡ false
    → Memᴰ (row k (content_of ss k)) (entries ss)
content_member {bytes} {ss} good k t =
    ⊎_elim
    (λ q. clash (ap is_idle (content_none ss k q.1) ∙ idle_idle) t)
    (λ q. look_member (entries ss) k (content_of ss k) (q.1 ∙ ap some (sym (content_some ss k q.0.content.item q.1))))
    (lookup bytes ss k good)

has_absent : (ss : List Slot) (k : ℕ) → count (keyed k) ss ≡ 0 → has k (keys (entries ss)) ≡ false
unfolding has any keys entries
has_absent [] k h = refl
has_absent (s ∷ ss) k h =
    let sum : keyed k s.entry + count (keyed k) ss ≡ 0 = sym (count_cons (keyed k) s ss) ∙ h in
    let rest : has k (keys (entries ss)) ≡ false = has_absent ss k (omega arith) in
    ⊎_elim
    (λ q. ap (λ (es : List (Row Content)). has k (keys es)) (entries_none s ss q) ∙ rest)
    (λ q. ap (λ (es : List (Row Content)). has k (keys es)) (entries_some s ss q.0 q.1)
    ∙ ap (λ (t : Bool). pick t true (has k (keys (entries ss))))
    (same_no {m = k} {n = q.0.key} (λ e. let z : keyed k s.entry ≡ 1 = keyed_here k s.entry q.0 q.1 (sym e) in omega arith))
    ∙ rest)
    (options s.entry)

once_differ : (ss : List Slot) → ((k : ℕ) → count (keyed k) ss ≤ 1) → Different (keys (entries ss))
unfolding Different keys entries
once_differ [] h = tt
once_differ (s ∷ ss) h =
    let rest : Different (keys (entries ss)) = once_differ ss (λ k. (let z : keyed k s.entry + count (keyed k) ss ≤ 1 = sum k in omega arith)) in
    ⊎_elim
    (λ q. subst (λ (es : List (Row Content)). Different (keys es)) (sym (entries_none s ss q)) rest)
    (λ q. subst (λ (es : List (Row Content)). Different (keys es)) (sym (entries_some s ss q.0 q.1))
    (has_absent ss q.0.key (new q.0 q.1), rest))
    (options s.entry)
  where
    sum : (k : ℕ) → keyed k s.entry + count (keyed k) ss ≤ 1
    sum k = subst (λ (n : ℕ). n ≤ 1) (count_cons (keyed k) s ss) (h k)

    new : (e : Row Content) → s.entry ≡ some e → count (keyed e.key) ss ≡ 0
    new e q =
        let a : keyed e.key s.entry ≡ 1 = keyed_here e.key s.entry e q refl in
        let b : keyed e.key s.entry + count (keyed e.key) ss ≤ 1 = sum e.key in
        omega arith

pub keys_differ : {bytes : ℕ} {ss : List Slot} → Good bytes ss → Different (keys (entries ss))
keys_differ {bytes} {ss} good = once_differ ss good.once

-- ---- sums over the entries

-- the entry that changes is the one that k had
entry_was : {bytes : ℕ} {ss : List Slot} {k : ℕ} {c : Content} {ts : List Slot} → Good bytes ss → (r : Entered bytes ss k c ts)
    → r.old ≡ kept k (content_of ss k)
entry_was {bytes} {ss} {k} {c} {ts} good r = ⊎_elim without having (options r.old)
  where
    without : r.old ≡ none → r.old ≡ kept k (content_of ss k)
    without q =
        let said : content_of ss k ≡ idle = content_none ss k (look_absent ss k (r.own ∙ ap (keyed k) q)) in
        q ∙ sym (ap (λ (t : Bool). pick t none (some (row k (content_of ss k)))) (ap is_idle said ∙ idle_idle))

    own_key : (e : Row Content) → r.old ≡ some e → e.key ≡ k
    own_key e q =
        ⊎_elim
        (λ t. same_true e.key k t)
        (λ t. absurd
        (let a : keyed e.key r.old ≡ 0 = r.foreign e.key (same_false e.key k t) in
        let b : keyed e.key r.old ≡ 1 = keyed_here e.key r.old e q refl in
        omega arith))
        (cases (same e.key k))

    having : (q : (e : Row Content) × (r.old ≡ some e)) → r.old ≡ kept k (content_of ss k)
    having q =
        let e : Row Content = q.0 in
        let key : e.key ≡ k = own_key e q.1 in
        let at : entry_at ss r.at ≡ some e = r.changed.before ∙ q.1 in
        let said : content_of ss k ≡ e.item = content_some ss k e.item (look_held ss r.at k e (good.once k) r.changed.inside at key) in
        q.1
        ∙ sym
        (ap (λ (t : Bool). pick t none (some (row k (content_of ss k)))) (ap is_idle said ∙ good.lively r.at e at)
        ∙ (λ i. some (record { key = sym key i; item = said i })))

-- what the entry of k counts for, where there is one if something is said
abbrev pub weigh : (Row Content → ℕ) → ℕ → Content → ℕ
weigh f k c = pick (is_idle c) 0 (f (row k c))

weigh_kept : (f : Row Content → ℕ) (k : ℕ) (c : Content) → maybe (kept k c) 0 f ≡ weigh f k c
weigh_kept f k c = go (is_idle c)
  where
    go : (t : Bool) → maybe (pick t none (some (row k c))) 0 f ≡ pick t 0 (f (row k c))
    go true = refl
    go false = refl

sum_entries : (f : Row Content → ℕ) (ss : List Slot) → total (λ (i : ℕ). f) (entries ss) ≡ count (λ (o : Option (Row Content)). maybe o 0 f) ss
unfolding total tally entries
sum_entries f [] = refl
sum_entries f (s ∷ ss) =
    ⊎_elim
    (λ q. ap (λ (es : List (Row Content)). total (λ (i : ℕ). f) es) (entries_none s ss q)
    ∙ sum_entries f ss
    ∙ (let z : maybe s.entry 0 f ≡ 0 = ap (λ (o : Option (Row Content)). maybe o 0 f) q in omega arith))
    (λ q. ap (λ (es : List (Row Content)). total (λ (i : ℕ). f) es) (entries_some s ss q.0 q.1)
    ∙ ap (λ (n : ℕ). f q.0 + n) (sum_entries f ss)
    ∙ (let z : maybe s.entry 0 f ≡ f q.0 = ap (λ (o : Option (Row Content)). maybe o 0 f) q.1 in omega arith))
    (options s.entry)

-- a sum over the entries changes by what the entry of k counted for and counts for now
pub sum_enter : {bytes : ℕ} {ss : List Slot} {k : ℕ} {c : Content} → Good bytes ss → EntryRoom ss k c → (f : Row Content → ℕ)
    → total (λ (i : ℕ). f) (entries (enter bytes ss k c)) + weigh f k (content_of ss k) ≡ total (λ (i : ℕ). f) (entries ss) + weigh f k c
unfolding Entering
sum_enter {bytes} {ss} {k} {c} good room f = ⊎_elim changed unchanged (entering good room)
  where
    ts : List Slot
    ts = enter bytes ss k c

    g : Option (Row Content) → ℕ
    g o = maybe o 0 f

    changed : Entered bytes ss k c ts
        → total (λ (i : ℕ). f) (entries ts) + weigh f k (content_of ss k) ≡ total (λ (i : ℕ). f) (entries ss) + weigh f k c
    changed r =
        let sums : count g ts + g r.old ≡ count g ss + g (kept k c) = changed_tally r.changed (λ (i : ℕ). g) in
        let before : g r.old ≡ weigh f k (content_of ss k) = ap g (entry_was good r) ∙ weigh_kept f k (content_of ss k) in
        let after : g (kept k c) ≡ weigh f k c = weigh_kept f k c in
        let a : total (λ (i : ℕ). f) (entries ts) ≡ count g ts = sum_entries f ts in
        let b : total (λ (i : ℕ). f) (entries ss) ≡ count g ss = sum_entries f ss in
        omega arith

    unchanged : (ts ≡ ss) × (count (keyed k) ss ≡ 0) × (is_idle c ≡ true)
        → total (λ (i : ℕ). f) (entries ts) + weigh f k (content_of ss k) ≡ total (λ (i : ℕ). f) (entries ss) + weigh f k c
    unchanged r =
        let same_sum : total (λ (i : ℕ). f) (entries ts) ≡ total (λ (i : ℕ). f) (entries ss) = ap
        (λ (l : List Slot). total (λ (i : ℕ). f) (entries l)) r.0 in
        let said : content_of ss k ≡ idle = content_none ss k (look_absent ss k r.1) in
        let before : weigh f k (content_of ss k) ≡ 0
        = ap (λ (t : Bool). pick t 0 (f (row k (content_of ss k)))) (ap is_idle said ∙ idle_idle) in
        let after : weigh f k c ≡ 0 = ap (λ (t : Bool). pick t 0 (f (row k c))) r.2 in
        omega arith

length_sum : {A : Type 0} (xs : List A) → total (λ (i : ℕ) (x : A). 1) xs ≡ length xs
unfolding total
length_sum [] = refl
length_sum (x ∷ xs) = let e : total (λ (i : ℕ) (x : _). 1) xs ≡ length xs = length_sum xs in omega arith

-- how the number of entries changes: one more if k gets its entry, one less if it loses it
pub count_enter : {bytes : ℕ} {ss : List Slot} {k : ℕ} {c : Content} → Good bytes ss → EntryRoom ss k c
    → length (entries (enter bytes ss k c)) + pick (present (look (entries ss) k)) 1 0 ≡ length (entries ss) + pick (is_idle c) 0 1
count_enter {bytes} {ss} {k} {c} good room =
    let sums : total (λ (i : ℕ) (e : Row Content). 1) (entries (enter bytes ss k c)) + pick (is_idle (content_of ss k)) 0 1
    ≡ total (λ (i : ℕ) (e : Row Content). 1) (entries ss) + pick (is_idle c) 0 1
    = sum_enter good room (λ (e : Row Content). 1) in
    let a : total (λ (i : ℕ) (e : Row Content). 1) (entries (enter bytes ss k c)) ≡ length
    (entries (enter bytes ss k c)) = length_sum (entries (enter bytes ss k c)) in
    let b : total (λ (i : ℕ) (e : Row Content). 1) (entries ss) ≡ length (entries ss) = length_sum (entries ss) in
    let found : ◌≡◌ {A = ℕ} (pick (present (look (entries ss) k)) 1 0) (pick (is_idle (content_of ss k)) 0 1)
    = ap (λ (t : Bool). pick t 1 0) (present_content good k) ∙ swap (is_idle (content_of ss k)) in
    omega arith
  where
    swap : (t : Bool) → ◌≡◌ {A = ℕ} (pick (not t) 1 0) (pick t 0 1)
    swap true = refl
    swap false = refl
