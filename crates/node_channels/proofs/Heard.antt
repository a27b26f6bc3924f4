-- A client reads of a trace its context alone.
use Rattle.std.proofs.Common.{◌≡◌, ℕ, List, [], ◌∷◌, map, Bool, true, false, cond, Option, None, Some, refl, sym, ap, ◌∙◌}
use Rattle.std.specs.Prelude.{◌==◌, ◌&&◌, not, nat_le}
use Rattle.snap_ids.specs.declared.id.Ino.{Ino}
use Rattle.snap_ids.specs.declared.id.SnapId.{SnapId}
use Rattle.snap_ids.specs.declared.values.Mode.{Mode}
use Rattle.snap_ids.specs.declared.values.RealmInfo.{RealmInfo}
use Rattle.snap_ids.specs.Context.{Context}
use Rattle.snap_ids.specs.Traces.{context_of}
use Rattle.plain_types.specs.declared.message.FileTrace.{FileTrace}
use Rattle.plain_types.specs.declared.message.Message.{Message}
use Rattle.plain_types.specs.declared.message.Message.TheVariants as message
use Rattle.plain_types.specs.declared.message.Stamp.{Stamp}
use Rattle.plain_types.specs.declared.message.ToClient.{ToClient}
use Rattle.plain_types.specs.declared.message.ToClient.TheVariants.{Reply, Grant, Recall, Notice, FlushAck, Welcome, Restarted}
use Rattle.plain_tree.specs.History.{stamp_of}
use Rattle.held_files.specs.Files.{is_writer, is_write, hold}
use Rattle.node_core.specs.Steps.{is_to_client}
use Rattle.step_table.specs.Messages.{to_client_fits, context_by, plain_trace, plainly_told, plain_message}
use Rattle.step_table.specs.Row.{Row}
use Rattle.step_table.specs.ClientState.{Client, Under, Idle, Open, AtStore, with_context, stays, connects, on_file, edit_of}
use Rattle.step_table.specs.ClientTakes.{renewed, updated, acked, goes_on, granted, asks_for, take_grant, take_reply, may_take, take_own, having_heard, on_told}
use Rattle.held_files.specs.Files.{recalled}

-- the context that a trace of one realm says
said_by : List RealmInfo → Context
said_by [] = record { seq = record { 0 = 0 }; ids = [] }
said_by (realm ∷ trace) = record { seq = realm.seq; ids = realm.past }

plain_context : FileTrace → Context
plain_context file = said_by file.trace

context_kept : (file : FileTrace) → plain_context (plain_trace file) ≡ context_by file
unfolding plain_context said_by
context_kept file = refl

-- an update
updated_by : Client → List FileTrace → Client
updated_by c [] = c
updated_by c (file ∷ update) = updated_by (cond (is_writer file.ino c.files) (renewed c file.ino (plain_context file)) c) update

updated_plain : (c : Client) (update : List FileTrace) → updated c update ≡ updated_by c (map plain_trace update)
unfolding updated_by
updated_plain c [] = refl
updated_plain c (file ∷ update) =
    updated_plain (cond (is_writer file.ino c.files) (renewed c file.ino (context_by file)) c) update
    ∙ ap (λ (context : Context). updated_by (cond (is_writer file.ino c.files) (renewed c file.ino context) c) (map plain_trace update)) (sym (context_kept file))

-- a Grant, with its file's context
granted_by : Client → ℕ → Stamp → Ino → Mode → ℕ → Context → Under → Row Client
granted_by c tid stamp ino mode size context (Open number open_tid text asked let_go) =
    cond (open_tid == tid && asks_for asked ino mode && not (is_writer ino c.files))
    (goes_on (record c { under = Idle; files = hold ino mode size stamp.snap c.files; contexts = cond (is_write mode) (with_context ino context c.contexts) c.contexts }) number ino (edit_of text)) (stays c)
granted_by c tid stamp ino mode size context under = stays c

granted_plain : (c : Client) (tid : ℕ) (stamp : Stamp) (ino : Ino) (mode : Mode) (size : ℕ) (file : FileTrace) (under : Under) → take_grant c tid stamp ino mode size file under ≡ granted_by c tid stamp ino mode size (context_by file) under
unfolding granted_by
granted_plain c tid stamp ino mode size file (Open number open_tid text asked let_go) = refl
granted_plain c tid stamp ino mode size file Idle = refl
granted_plain c tid stamp ino mode size file (AtStore number entry held head) = refl

-- what a client takes as its own
own_by : Client → ToClient → Row Client
own_by c (Restarted stamp) = connects c
own_by c (Reply conn tid stamp said) = take_reply c tid stamp said c.under
own_by c (Grant conn tid stamp ino mode size file) = granted_by c tid stamp ino mode size (plain_context file) c.under
own_by c (Recall conn stamp ino) = stays (on_file c ino recalled)
own_by c (Notice conn stamp update) = stays (updated_by c update)
own_by c (FlushAck conn stamp number) = stays (acked c (λ n. n == number))
own_by c (Welcome conn stamp last update) = stays (updated_by (acked (record c { frozen = false }) (λ n. nat_le n last)) update)

told_by : Client → ToClient → Bool → Row Client
told_by c told fits = cond (may_take c told && fits) (own_by (having_heard c told) told) (stays (having_heard c told))

told_plain : (c : Client) (told : ToClient) → on_told c told ≡ told_by c (plainly_told told) (to_client_fits told)
unfolding told_by own_by
told_plain c (Restarted stamp) = refl
told_plain c (Reply conn tid stamp said) = refl
told_plain c (Grant conn tid stamp ino mode size file) =
    let told : ToClient = Grant conn tid stamp ino mode size file in
    let heard : Client = having_heard c told in
    ap (λ (r : Row Client). cond (may_take c told && to_client_fits told) r (stays heard))
    (granted_plain heard tid stamp ino mode size file c.under ∙ ap (λ (context : Context). granted_by heard tid stamp ino mode size context c.under) (sym (context_kept file)))
told_plain c (Recall conn stamp ino) = refl
told_plain c (Notice conn stamp update) =
    let told : ToClient = Notice conn stamp update in
    let heard : Client = having_heard c told in
    ap (λ (d : Client). cond (may_take c told && to_client_fits told) (stays d) (stays heard)) (updated_plain heard update)
told_plain c (FlushAck conn stamp number) = refl
told_plain c (Welcome conn stamp last update) =
    let told : ToClient = Welcome conn stamp last update in
    let heard : Client = having_heard c told in
    ap (λ (d : Client). cond (may_take c told && to_client_fits told) (stays d) (stays heard)) (updated_plain (acked (record heard { frozen = false }) (λ n. nat_le n last)) update)

pub hears_the_same : (c : Client) (told other : ToClient) → plainly_told told ≡ plainly_told other → to_client_fits told ≡ to_client_fits other → on_told c told ≡ on_told c other
hears_the_same c told other same fits = told_plain c told ∙ (λ i. told_by c (same i) (fits i)) ∙ sym (told_plain c other)

-- every other message is the same
plain_is : (m : Message) → is_to_client m ≡ false → plain_message m ≡ m
plain_is (message.ToClient told) other = cc
plain_is (message.ToServer said) other = refl
plain_is (message.ToStore order) other = refl
plain_is (message.FromStore said) other = refl

kind_kept : (m : Message) → is_to_client (plain_message m) ≡ is_to_client m
kind_kept (message.ToClient told) = refl
kind_kept (message.ToServer said) = refl
kind_kept (message.ToStore order) = refl
kind_kept (message.FromStore said) = refl

pub same_message : (m other : Message) → plain_message m ≡ plain_message other → is_to_client other ≡ false → m ≡ other
same_message m other same kind = sym (plain_is m (sym (kind_kept m) ∙ ap is_to_client same ∙ kind_kept other ∙ kind)) ∙ same ∙ plain_is other kind
