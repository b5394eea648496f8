-- Run two differs in names that run one got, and all but text is shared. The readers' own two runs give equal lists and records; over these the calls
-- know the same. Assumes nothing.
use Prim.Native.Nat.{ℕ}
use mathlib.Core.Path.{◌≡◌, refl, ap}
use mathlib.Core.List.{List, []}
use native.Mathlib.Omega.{arith}
use lib.ListN.{length}
use Rattle.base.specs.Masked.{Masked}
use Rattle.base.specs.declared.Place.{Place}
use Rattle.usn_scan.proofs.OutcomeTwoRuns.{outcome-two-runs}
use Rattle.usn_scan.proofs.OutcomeTwoRuns.{call-two-runs as scan-call}
use Rattle.usn_scan.specs.Outcome.{listing}
use Rattle.usn_carver.specs.Settings.{standard}
use Rattle.usn_carver.proofs.TwoRunLaws.{call-two-runs as carver-call}
use Rattle.usn_window.specs.Run.{given_by, Call as WindowCall}
use Rattle.usn_window.proofs.TwoRuns.{window-two-runs}
use Rattle.mft_carver.specs.Settings.{standard as image_standard}
use Rattle.mft_carver.proofs.ImageTwoRuns.{call-two-runs as image-call}
use Rattle.chain.proofs.TwoRuns.{chain-two-runs}
use Rattle.path.proofs.TwoRuns.{path-two-runs, decode-two-runs}
use Rattle.masking.specs.Calls.{Sources, sources, result_of}
use Rattle.masking.specs.Demand.{image_names, SharedImage, SharedRecords, Strikes, Shared, Reader, scanner, carver, window, scan_places, carver_places, window_places, Differ, Share, NamesDecideNothing}
use Rattle.masking.proofs.CallLaws.{struck-full, full-struck, struck-stays}
use Rattle.masking.proofs.ContractLaws.{insert-is, insert-if-absent-is, seed-is, seed-from-carved-is, start_is, next-is, next-text-is, window-is}
use Rattle.masking.proofs.RunLaws.{run_is}
use Rattle.masking.specs.Promised.{ListsAreCalls}
use Rattle.masking.proofs.EnvironmentLaws.{environment-same}
use Rattle.masking.proofs.ReplayLaws.{calls_same}

-- the image carver
image-shared : (image image' entries : List ℕ) → Masked image image' (image_names image entries) → SharedImage image image' entries
image-shared image image' entries m =
    let r = image-call image_standard (omega arith) refl image image' entries m in
    record { outcome = r.outcome; words = r.list; carved = r.entries }

-- what is struck out is what 8 refused
strikes : (s : Sources) → Strikes s
strikes s = record { full = λ c st. struck-full c (result_of s c st).outcome; all = full-struck s; stays = struck-stays s }

-- what comes after a reader whose places, and the records there, are the same in both runs
later-shared : (journal journal' image image' : List ℕ) (ps qs : List Place) → length journal' ≡ length journal → length image' ≡ length image → qs ≡ ps
    → SharedRecords journal journal' ps → Shared (sources journal image ps) (sources journal' image' qs)
later-shared journal journal' image image' ps qs e f g h =
    rw g
    (record {
      strikes = strikes (sources journal image ps);
      strikes' = strikes (sources journal' image' ps);
      calls = λ st cs ds. calls_same (sources journal image ps) (sources journal' image' ps) (environment-same journal journal' image image' ps e f h) cs ds st;
      path = λ t depth k room room'. path-two-runs journal journal' image image' t depth k room room' e f;
      chain = λ t depth k. (chain-two-runs journal journal' image image' t depth k [] e f).chains;
      chain_list = λ t depth k l. (chain-two-runs journal journal' image image' t depth k l e f).lists;
      decode = λ p room room'. decode-two-runs journal journal' image image' p room room' e f;
    })

-- the three readers
module _ (journal journal' image image' entries : List ℕ) where
  scan-shares : (list : List ℕ) → Differ (scanner list) journal journal' image image' entries → Share (scanner list) journal journal' image image' entries
  scan-shares list m =
      let r = scan-call journal journal' list m.journals in
      let same : scan_places journal' list ≡ scan_places journal list = ap listing (outcome-two-runs journal journal' (length list) m.journals).0 in
      record {
        image_carver = image-shared image image' entries m.images;
        reader = record { answer = r.0; words = r.1 };
        listed_same = same;
        records = r.2;
        later = later-shared journal journal' image image' (scan_places journal list) (scan_places journal' list) m.journals.long m.images.long same r.2;
      }

  carver-shares : (list : List ℕ) → Differ (carver list) journal journal' image image' entries → Share (carver list) journal journal' image image' entries
  carver-shares list m =
      let r = carver-call standard journal journal' list m.asked m.journals in
      record {
        image_carver = image-shared image image' entries m.images;
        reader = record { answer = r.outcome; words = r.list };
        listed_same = r.places;
        records = r.parsed;
        later = later-shared journal journal' image image' (carver_places journal list) (carver_places journal' list) m.journals.long m.images.long r.places r.parsed;
      }

  window-shares : (buffer buffer' : List ℕ) (cs ds : List WindowCall) → Differ (window buffer buffer' cs ds) journal journal' image image' entries
      → Share (window buffer buffer' cs ds) journal journal' image image' entries
  window-shares buffer buffer' cs ds m =
      let a = m.asked in
      let r = window-two-runs journal journal' buffer buffer' a.whole a.whole' cs ds a.alike a.carries a.carries' m.journals in
      let same : window_places journal' buffer' ds ≡ window_places journal buffer cs = ap given_by r.0 in
      record {
        image_carver = image-shared image image' entries m.images;
        reader = record { answers = r.0 };
        listed_same = same;
        records = r.1;
        later = later-shared journal journal' image image' (window_places journal buffer cs) (window_places journal' buffer' ds) m.journals.long m.images.long same r.1;
      }

shares : (r : Reader) (journal journal' image image' entries : List ℕ) → Differ r journal journal' image image' entries → Share r journal journal' image image' entries
shares (scanner list) journal journal' image image' entries m = scan-shares journal journal' image image' entries list m
shares (carver list) journal journal' image image' entries m = carver-shares journal journal' image image' entries list m
shares (window buffer buffer' cs ds) journal journal' image image' entries m = window-shares journal journal' image image' entries buffer buffer' cs ds m

-- the calls of a list are those of the contracts
lists-are-calls : ListsAreCalls
lists-are-calls =
    record {
      insert-is = insert-is;
      insert-if-absent-is = insert-if-absent-is;
      seed-is = seed-is;
      seed-from-carved-is = seed-from-carved-is;
      start_is = start_is;
      next-is = next-is;
      next-text-is = next-text-is;
      run_is = run_is;
      window-is = window-is;
    }

pub names-decide-nothing : NamesDecideNothing
names-decide-nothing = record { shares = shares; lists = lists-are-calls }
