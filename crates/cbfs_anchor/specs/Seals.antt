-- The digests of an image, and what a seal does.
use Rattle.std.specs.Prelude.{◌≡◌, ◌⊎◌, ℕ, ◌+◌, ◌*◌, ◌/◌, ◌&&◌, Bool, not, List, ◌++◌, length, take, drop, Option, Some, None, Result, Ok, Err, MatchResult, if◌then◌else◌}
use Rattle.std.specs.Option.{option_map_or}
use Rattle.std.specs.Str.{bytes_eq}
use Rattle.flash_device.specs.Device.{Device, overwritten, SameOutside}
use Rattle.flash_device.specs.Regions.{bytes_in}
use Rattle.flash_map.specs.declared.search.FoundMap.{FoundMap}
use Rattle.cbfs_anchor.specs.declared.anchor.Anchor.{Anchor}
use Rattle.cbfs_anchor.specs.declared.fault.SealFault.{SealFault}
use Rattle.cbfs_anchor.specs.declared.fault.SealFault.TheVariants as faults
use Rattle.cbfs_anchor.specs.declared.demand.Demand.{Demand}
use Rattle.cbfs_anchor.specs.declared.demand.Demand.TheVariants as demands
use Rattle.cbfs_anchor.specs.declared.report.Report.{Report}
use Rattle.cbfs_anchor.specs.Algorithms.{digest_by, digest_len}
use Rattle.cbfs_anchor.specs.Faults.{and_then}
use Rattle.cbfs_anchor.specs.Layout.{anchor_in, digests_range, has_header}
use Rattle.cbfs_anchor.specs.declared.place.AnchorPlace.{AnchorPlace}
use Rattle.cbfs_anchor.specs.Places.{place_in, place_with, place_reads, is_misplaced}
use Rattle.cbfs_anchor.specs.Metadata.{metadata_in}

-- the anchor of an image, and the digests that it should have
pub record Survey : Type 0 where
  pub anchor : Anchor
  pub metadata : List ℕ
  pub map : List ℕ

abbrev pub survey_by : Anchor → List ℕ → List ℕ → Survey
survey_by a message map = let digest = digest_by a.algorithm in
    record { anchor = a; metadata = digest message; map = digest map }

-- why the digests can't be written
abbrev pub writing_fault : Demand → AnchorPlace → Anchor → List ℕ → Option SealFault
writing_fault demands.Nothing place a x = None
writing_fault demand place a x = if is_misplaced place (digests_range a) then Some faults.Misplaced
    else (if has_header x then Some faults.OwnDigest else None)

-- after the anchor is found
abbrev pub survey_at : Demand → List ℕ → AnchorPlace → Anchor → Result Survey SealFault
survey_at demand image place a = option_map_or (λ fault. Err fault)
    (writing_fault demand place a (bytes_in place.anchor image))
    (and_then (metadata_in demand a.algorithm (bytes_in place.coreboot image))
    (λ message. Ok (survey_by a message (bytes_in place.map image))))

-- after the range with the anchor is found
abbrev pub survey_from : Demand → List ℕ → AnchorPlace → Result Survey SealFault
survey_from demand image place =
    and_then (anchor_in place.anchor.start (bytes_in place.anchor image))
    (survey_at demand image place)

-- by a flash map: the first error, or the anchor and its digests
unfoldable pub survey_with : Demand → List ℕ → FoundMap → Result Survey SealFault
survey_with demand image map = and_then (place_with image map) (survey_from demand image)

-- by the first flash map of the image
unfoldable pub survey_in : Demand → List ℕ → Result Survey SealFault
survey_in demand image = and_then (place_in image) (survey_from demand image)

-- the digests that the anchor has
abbrev pub stored_metadata : Anchor → List ℕ → List ℕ
stored_metadata a image = take (digest_len a.algorithm) (bytes_in (digests_range a) image)

abbrev pub stored_map : Anchor → List ℕ → List ℕ
stored_map a image = drop (digest_len a.algorithm) (bytes_in (digests_range a) image)

-- both digests that it should have
abbrev pub digests : Survey → List ℕ
digests s = s.metadata ++ s.map

-- a report of the image's anchor: the digests that it should have, and whether it has them
pub record IsReport (s : Survey) (image : List ℕ) (report : Report) : Type 0 where
  pub anchor : report.anchor ≡ s.anchor
  pub metadata : take (digest_len s.anchor.algorithm) report.metadata ≡ s.metadata
  pub map : take (digest_len s.anchor.algorithm) report.map ≡ s.map
  pub metadata_valid : report.metadata_valid ≡ bytes_eq (stored_metadata s.anchor image) s.metadata
  pub map_valid : report.map_valid ≡ bytes_eq (stored_map s.anchor image) s.map

-- the anchor has both digests
abbrev pub has_digests : Survey → List ℕ → Bool
has_digests s image = bytes_eq (stored_metadata s.anchor image) s.metadata
    && bytes_eq (stored_map s.anchor image) s.map

-- whether an anchor that is found by a survey, or its error, has an outdated digest
abbrev pub IsOutdatedBy : Result Survey SealFault → Result Bool SealFault → List ℕ → Type 0
IsOutdatedBy survey result image = MatchResult result
    (λ outdated. (s : Survey) × (survey ≡ Ok s) × (outdated ≡ not (has_digests s image)))
    (λ fault. (fault ≡ faults.Device) ⊎ (survey ≡ Err fault))

-- whether an image has an anchor with an outdated digest, whatever its components satisfy
abbrev pub IsOutdated : Result Bool SealFault → List ℕ → Type 0
IsOutdated result image = IsOutdatedBy (survey_in demands.Nothing image) result image

-- the image with both digests renewed
abbrev pub sealed : Survey → List ℕ → List ℕ
sealed s image = overwritten image (digests_range s.anchor).start (digests s)

-- a result that reports the survey, or its error
abbrev pub IsReported : Result Survey SealFault → Result Report SealFault → List ℕ → Type 0
IsReported survey result image = MatchResult result
    (λ report. (s : Survey) × (survey ≡ Ok s) × IsReport s image report)
    (λ fault. (fault ≡ faults.Device) ⊎ (survey ≡ Err fault))

-- an inspection of an image
abbrev pub IsInspection : Demand → Result Report SealFault → List ℕ → Type 0
IsInspection demand result image = IsReported (survey_in demand image) result image

-- both digests of a report
abbrev pub report_digests : Report → List ℕ
report_digests report = let n = digest_len report.anchor.algorithm in
    take n report.metadata ++ take n report.map

-- at most the bytes of the digests differ
abbrev pub DiffersInDigests : Anchor → List ℕ → List ℕ → Type 0
DiffersInDigests a old now = let place = digests_range a in
    SameOutside place.start place.size old now

-- after a device fault
abbrev pub IsStopped : Demand → List ℕ → List ℕ → Type 0
IsStopped demand old now = (now ≡ old) ⊎ ((s : Survey) × (survey_in demand old ≡ Ok s)
    × DiffersInDigests s.anchor old now)

-- the effect of a seal on an honest device's image, by the result
abbrev pub IsSeal : Demand → Result Report SealFault → List ℕ → List ℕ → Type 0
IsSeal demand result old now = MatchResult result
    (λ report. (s : Survey) × (survey_in demand old ≡ Ok s) × IsReport s old report
    × (now ≡ sealed s old))
    (λ fault. ((fault ≡ faults.Device) × IsStopped demand old now)
    ⊎ ((survey_in demand old ≡ Err fault) × (now ≡ old)))

-- the maximum number of device calls of an inspection, after the range with the anchor is found
abbrev pub place_inspection_reads : Device → ℕ
place_inspection_reads device = length device.content / 16 + length device.content / 1920 + 8

-- the maximum number of device calls of an inspection
abbrev pub inspection_reads : Device → ℕ
inspection_reads device = place_reads device + place_inspection_reads device

-- the same if the flash map is known
abbrev pub inspection_reads_with : FoundMap → Device → ℕ
inspection_reads_with map device =
    2 * map.head.nareas + length device.content / 16 + 2 + place_inspection_reads device
