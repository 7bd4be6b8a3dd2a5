-- The calls of which there are worked cases, and what each tells by the definitions that its contract cites.
use Rattle.std.specs.Prelude.{ℕ, ℤ, List, [], ◌∷◌, map}
use mathlib.Core.List.{flat_map}
use Rattle.std.specs.Float.{binary32}
use Rattle.std.specs.Float.Ieee.{of_bits, to_bits, round, of_int, add, sub, mul, div, lt, le}
use Rattle.fields.specs.Number.{unsigned_at}
use Rattle.fields.specs.Signed.{signed}
use Rattle.units.specs.Conversions.{metres_of_two_millimetres, metres_of_millimetres, degrees_by_division}
use Rattle.points.specs.ReadInto.{Outcome, too_long, first_refusal, number_given, map_outcome, over, read_into}
use Rattle.points.specs.Tabulate.{tabulate, gather}
use Rattle.record_rule.specs.declared.reading.Reading.{Reading}
use Rattle.record_rule.specs.declared.time.TimeUnit.{TimeUnit}
use Rattle.capture.specs.declared.walk.Place.{Place}
use Rattle.record_rule.specs.Ethernet.{ether_type, ip_start}
use Rattle.record_rule.specs.Ipv4.{version, ihl, flags_and_offset, more_fragments, fragment_offset, is_fragment, protocol, udp_start}
use Rattle.record_rule.specs.Udp.{destination_port, udp_length, held_from_udp, bad_udp_length, payload_start, payload_len}
use Rattle.record_rule.specs.Record.{verdict}
use Rattle.savefile.specs.Savefile
use Rattle.capture.specs.Payloads
use Rattle.capture.specs.Payloads.{opening, places_from, bytes_at}
use Rattle.capture.specs.Joined.{no_payload_check, points_in}
use Rattle.kitti.specs.Kitti
use Rattle.velodyne_angles.specs.Azimuth.{half_step_between, turned}
use Rattle.velodyne_angles.specs.Model.{vlp16_vert, hdl32e_vert, linear, linear_elevations}
use Rattle.velodyne_packet.specs.Packet
use Rattle.velodyne.specs.Velodyne
use Rattle.livox_form.specs.declared.Form.TheVariants.{Lvx, Lvx2}
use Rattle.livox_header.specs.Header
use Rattle.livox_file.specs.Livox
use Rattle.placing.specs.Placing

-- How a reader of float records lays numbers: as values into a slice of f32, or as their patterns into a slice of u32.
pub data LaidBy : Type 0 where
  by_value by_pattern : LaidBy

-- A call with its input. A slice of numbers is given by its patterns in both cases, so that their rows read alike; by
-- value it holds no NaN.
pub data Call : Type 0 where
  -- The file, and what the slices of numbers and of kinds hold at entry.
  kitti : LaidBy → List ℕ → List ℕ → List ℕ → Call
  lvx : LaidBy → List ℕ → List ℕ → List ℕ → Call
  lvx2 : LaidBy → List ℕ → List ℕ → List ℕ → Call
  -- Going through the payloads of a capture: the reading, the port, of which 0 is every one, and the file.
  capture : Reading → ℕ → List ℕ → Call
  -- One Velodyne payload, or a Velodyne capture with its reading; then what the slices of numbers and of kinds hold at
  -- entry.
  velodyne_packet : List ℕ → List ℕ → List ℕ → Call
  velodyne : Reading → List ℕ → List ℕ → List ℕ → Call
  -- What is asked to be placed, the count, the datum and the pulse length.
  place : Placing.Asked → ℕ → ℕ → ℕ → Call
  -- The length that the first record of a capture states: the reading, and the file.
  first_length : Reading → List ℕ → Call
  -- The payload of a rank: the reading, the port, the rank, and the file.
  payload_of : Reading → ℕ → ℕ → List ℕ → Call

-- A payload: where the header of its record stands, where it starts, and its bytes.
pub data Payload : Type 0 where
  payload : ℕ → ℕ → List ℕ → Payload

abbrev pub payload_at : List ℕ → Place → Payload
payload_at bytes p = payload p.header p.start (bytes_at bytes p)

-- What a call tells.
pub data Told : Type 0 where
  -- The number, the points, the frames, and what the slices of numbers, again by patterns, and of kinds then hold.
  reading : Outcome ℕ → Told
  -- The number, and the payloads in order.
  payloads : ℕ → List Payload → Told
  -- The number, the exact micrometres, and the distance by its pattern, 0 where it is refused.
  placed : ℕ → ℤ → ℕ → Told
  -- The length that a record states.
  length_stated : ℕ → Told
  -- The bytes of the part that is handed back, and its time: seconds, fraction, unit.
  part : List ℕ → ℕ → ℕ → TimeUnit → Told

abbrev part_at : List ℕ → Place → Told
part_at bytes p = part (bytes_at bytes p) p.time.seconds p.time.fraction p.time.unit

abbrev placed_as : ℤ → Placing.Placement → Told
placed_as micrometres (Placing.told x) = placed 0 micrometres (to_bits binary32 x)
placed_as micrometres (Placing.refused number) = placed number micrometres 0

-- The unfolding line names all that these definitions compute by, so that a proof unfolds `tell` alone.
unfoldable pub tell : Call → Told
unfolding flat_map of_bits to_bits unsigned_at over first_refusal read_into Kitti.checks Kitti.points_as Savefile.format_of Savefile.checks ether_type ip_start version ihl flags_and_offset more_fragments fragment_offset is_fragment protocol udp_start destination_port udp_length held_from_udp bad_udp_length payload_start payload_len verdict opening places_from Payloads.payloads Payloads.place_of Savefile.file_checks number_given no_payload_check points_in tabulate gather round of_int add sub mul div lt le metres_of_two_millimetres degrees_by_division half_step_between turned vlp16_vert hdl32e_vert linear linear_elevations Packet.packet_points Velodyne.checks signed metres_of_millimetres Header.checks Livox.points Livox.point_bits Livox.frames Placing.pulses Placing.exact_of Placing.metres Placing.checks_of Placing.place
tell (kitti by_value bytes numbers kinds) = reading (map_outcome (to_bits binary32) (Kitti.read_kitti bytes (map (of_bits binary32) numbers) kinds))
tell (kitti by_pattern bytes numbers kinds) = reading (Kitti.read_kitti_bits bytes numbers kinds)
tell (lvx by_value bytes numbers kinds) = reading (map_outcome (to_bits binary32) (Livox.read_livox Lvx bytes (map (of_bits binary32) numbers) kinds))
tell (lvx by_pattern bytes numbers kinds) = reading (Livox.read_livox_bits Lvx bytes numbers kinds)
tell (lvx2 by_value bytes numbers kinds) = reading (map_outcome (to_bits binary32) (Livox.read_livox Lvx2 bytes (map (of_bits binary32) numbers) kinds))
tell (lvx2 by_pattern bytes numbers kinds) = reading (Livox.read_livox_bits Lvx2 bytes numbers kinds)
tell (capture r port bytes) = payloads (opening r port bytes).0 (map (payload_at bytes) (flat_map (λ cursor. places_from cursor bytes) (opening r port bytes).1))
tell (velodyne_packet bytes numbers kinds) = reading (map_outcome (to_bits binary32) (read_into (too_long bytes ∷ []) (Packet.packet_points bytes) 0 (map (of_bits binary32) numbers) kinds))
tell (velodyne r bytes numbers kinds) = reading (map_outcome (to_bits binary32) (Velodyne.read_velodyne r bytes (map (of_bits binary32) numbers) kinds))
tell (place asked count datum pulse_length) = placed_as (Placing.exact_of asked.micrometres count datum pulse_length) (Placing.place asked count datum pulse_length)
tell (first_length r bytes) = length_stated (Savefile.captured_at (Savefile.format_of r bytes) bytes 24)
tell (payload_of r port rank bytes) = part_at bytes (Payloads.place_of r port rank bytes)
