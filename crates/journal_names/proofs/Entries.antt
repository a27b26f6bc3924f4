-- The entries of the plain tree after one more entry of a journal, and those of a tree of names.
use Rattle.std.proofs.Common.{◌≡◌, ℕ, ◌<◌, ◌≤◌, List, Bool, true, false, Option, None, Some, refl, ap, ◌∙◌, arith}
use Rattle.std.specs.Prelude.{if◌then◌else◌}
use Rattle.snap_ids.specs.declared.id.SnapId.{SnapId}
use Rattle.snap_ids.specs.declared.id.TheConstants.{NOSNAP}
use Rattle.plain_types.specs.declared.change.Change.{Change}
use Rattle.plain_types.specs.declared.change.Change.TheVariants as change
use Rattle.plain_types.specs.declared.entry.Entry.{Entry}
use Rattle.plain_tree.specs.State.{State}
use Rattle.plain_tree.specs.Change.{is_refused, make}
use Rattle.plain_journal.specs.Entries.{with_change, state_after, applied}
use Rattle.plain_journal.specs.Legal.{is_journal}
use Rattle.journal_moments.proofs.Moments.{above_now, above_asked, applied_below_nosnap}
use Rattle.dentry_tree.specs.Dentries.{Tree, entries_at}
use Rattle.journal_names.specs.Names.{NamesStand}

-- the change leaves the entries
abbrev pub leaves_entries : Option Change → Bool
leaves_entries (Some (change.Mkdir dir name ino)) = false
leaves_entries (Some (change.Create dir name ino mode)) = false
leaves_entries (Some (change.Link ino dir name)) = false
leaves_entries (Some (change.Unlink dir name)) = false
leaves_entries (Some (change.Rmdir dir name)) = false
leaves_entries (Some (change.Rename dir name to_dir to_name)) = false
leaves_entries c = true

same_entries : (b : Bool) (state new : State) → new.entries ≡ state.entries → (if b then state else new).entries ≡ state.entries
same_entries true state new same = refl
same_entries false state new same = same

pub steady_entries : (state : State) (client : ℕ) (c : Option Change) → leaves_entries c ≡ true → (with_change state client c).entries ≡ state.entries
steady_entries state client None is = refl
steady_entries state client (Some (change.Mkdir dir name ino)) is = cc
steady_entries state client (Some (change.Create dir name ino mode)) is = cc
steady_entries state client (Some (change.Link ino dir name)) is = cc
steady_entries state client (Some (change.Unlink dir name)) is = cc
steady_entries state client (Some (change.Rmdir dir name)) is = cc
steady_entries state client (Some (change.Rename dir name to_dir to_name)) is = cc
steady_entries state client (Some c) is = same_entries (is_refused state client c) state (make state client c) refl

-- above the last id the tree of names has the entries as they are now
pub names_above : (tree : Tree) (entries : List Entry) → is_journal entries ≡ true → NamesStand tree entries → (s : SnapId) → applied entries < s.0 → s.0 ≤ NOSNAP.0 → entries_at s tree ≡ (state_after entries).entries
names_above tree entries legal stands s above upto =
    stands.names s (above_asked entries s above upto) ∙ ap (λ (state : State). state.entries) (above_now entries legal s above)

pub live_names : (tree : Tree) (entries : List Entry) → is_journal entries ≡ true → NamesStand tree entries → entries_at NOSNAP tree ≡ (state_after entries).entries
live_names tree entries legal stands = names_above tree entries legal stands NOSNAP (applied_below_nosnap entries legal) (omega arith)
