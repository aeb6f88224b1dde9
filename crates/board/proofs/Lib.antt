pub mod HoleLaws
