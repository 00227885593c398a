-- The current records of a map: lock and unlock alter none, and an install lays its writes over.
use Rattle.std.specs.Prelude.{ℕ, ◌≡◌, refl, List}
use Rattle.std.proofs.Math.Path.{ap}
use Rattle.std.proofs.Common.{◌∙◌}
use Rattle.std.proofs.Math.Logic.{⊎_elim}
use Rattle.std.proofs.Math.Option.{Option, none, some}
use Rattle.lists.specs.Tests.{maybe}
use Rattle.lists.specs.TestLaws.{cases}
use Rattle.lists.specs.Rows.{Row, look, has}
use Rattle.spec.specs.Records.{Record, Write, outcome}
use Rattle.spec.specs.Slots.{Pending, Content, content_of}
use Rattle.spec.specs.Maps.{MapState, outcome_of, current, with_slots, lock_all, unlock_all, install_all}
use Rattle.laws.specs.MapLaws.{GoodMap, LockRoom, Installable, locked_pending, unlocked_pending, written_by, lock_says, unlock_says, install_says}

-- the same index, and the same pending write at the address
pub current_by : (m m' : MapState) → m'.records ≡ m.records → (k : ℕ) → (content_of m'.slots k).pending ≡ (content_of m.slots k).pending
    → current m' k ≡ current m k
unfolding current
current_by m m' r k e =
    ap (λ (rs : List (Row Record)). maybe (content_of m'.slots k).pending (look rs k) outcome_of) r
    ∙ ap (λ (p : Option Pending). maybe p (look m.records k) outcome_of) e

pub lock_current : (w : ℕ) (m : MapState) (ws : List (Row Write)) → GoodMap m → LockRoom m.slots ws
    → (k : ℕ) → current (lock_all w m ws) k ≡ current m k
lock_current w m ws g r k =
    current_by m (lock_all w m ws) (unfold lock_all with_slots in refl) k
    (ap (λ (c : Content). c.pending) (lock_says w m ws g r k) ∙ locked_pending w (look ws k) (content_of m.slots k))

pub unlock_current : (w : ℕ) (m : MapState) (ks : List ℕ) → GoodMap m → (k : ℕ) → current (unlock_all w m ks) k ≡ current m k
unlock_current w m ks g k =
    current_by m (unlock_all w m ks) (unfold unlock_all with_slots in refl) k
    (ap (λ (c : Content). c.pending) (unlock_says w m ks g k)
    ∙ ⊎_elim (λ t. rw t (unlocked_pending w (content_of m.slots k))) (λ t. rw t) (cases (has k ks)))

-- a write leaves its outcome under the commit number n
pub install_current : (n t : ℕ) (m : MapState) (ws : List (Row Write)) → GoodMap m → Installable m.slots ws
    → (k : ℕ) → current (install_all n t m ws) k ≡ maybe (look ws k) (current m k) (outcome n)
install_current n t m ws g i k = go (look ws k) refl
  where
    pending : (o : Option Write) → look ws k ≡ o → (content_of (install_all n t m ws).slots k).pending ≡ (written_by n t o (content_of m.slots k)).pending
    pending o q =
        ap (λ (c : Content). c.pending) (install_says n t m ws g i k)
        ∙ ap (λ (x : Option Write). (written_by n t x (content_of m.slots k)).pending) q

    go : (o : Option Write) → look ws k ≡ o → current (install_all n t m ws) k ≡ maybe o (current m k) (outcome n)
    go none q = current_by m (install_all n t m ws) (unfold install_all with_slots in refl) k (pending none q)
    go (some e) q =
        unfold current outcome_of in
        ap (λ (p : Option Pending). maybe p (look (install_all n t m ws).records k) outcome_of) (pending (some e) q)
